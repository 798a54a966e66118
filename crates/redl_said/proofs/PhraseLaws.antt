-- What is kept of a text where there were more characters than room.
use Rattle.std.proofs.Common.{◌≡◌, ℕ, List, [], ◌∷◌, true, refl, ◌∙◌, ap}
use Rattle.redl_said.specs.Phrases.{Kept, heard, heard_byte}

over-byte : (kept : Kept) (b : ℕ) → kept.over ≡ true → heard_byte kept b ≡ kept
unfolding heard_byte
over-byte kept b over = rw over refl

-- where there were more characters than room, nothing is added
pub heard-over : (kept : Kept) (bytes : List ℕ) → kept.over ≡ true → heard kept bytes ≡ kept
heard-over kept [] over = refl
heard-over kept (b ∷ bs) over = ap (λ (k : Kept). heard k bs) (over-byte kept b over) ∙ heard-over kept bs over
