-- Elements that most texts consist of show nothing at their starts.
use Rattle.std.proofs.Common.{◌≡◌, refl, sym, subst, ℕ, List, [], ◌∷◌, Bool, true, false, true≢false, ◌||◌, codes, bytes_eq}
use Rattle.redl_tree.specs.Roles.Names.{is_any, of_w}
use Rattle.redl_tree.proofs.Reading.SameBytes.{same_bytes}
use Rattle.redl_bare.specs.Units.{short_texts}
use Rattle.redl_bare.specs.Inside.Idle.{tag_with}

pub nothing-starts : (local tail : List ℕ) → is_any ("r" ∷ "t" ∷ "p" ∷ []) (of_w local) ≡ true → short_texts (tag_with local tail) ≡ []
nothing-starts local tail e = at (bytes_eq local (codes "r")) refl (bytes_eq local (codes "t")) refl (bytes_eq local (codes "p")) refl e
  where
    named : (name : List ℕ) → bytes_eq local name ≡ true → short_texts (tag_with name tail) ≡ [] → short_texts (tag_with local tail) ≡ []
    named name same shown = subst (λ l. short_texts (tag_with l tail) ≡ []) (sym (same_bytes local name same)) shown

    at : (r : Bool) → bytes_eq local (codes "r") ≡ r → (t : Bool) → bytes_eq local (codes "t") ≡ t → (p : Bool) → bytes_eq local (codes "p") ≡ p
        → (r || (t || (p || false))) ≡ true → short_texts (tag_with local tail) ≡ []
    at true same t _ p _ e = named (codes "r") same refl
    at false _ true same p _ e = named (codes "t") same refl
    at false _ false _ true same e = named (codes "p") same refl
    at false _ false _ false _ e = absurd (true≢false (sym e))
