-- What heard something hears it still.
use Rattle.std.proofs.Common.{◌≡◌, ◌||◌, ◌∙◌, ℕ, List, Bool, true, ap, sym}
use Rattle.redl_numbering.specs.Counts.{is_filled}
use Rattle.redl_clauses.specs.Inside.Heards.{heard}
use Rattle.redl_clauses.specs.declared.says.Heard.{Heard}

pub heard-over : (ear : Heard) (bytes : List ℕ) → ear.any ≡ true → heard ear bytes ≡ ear
heard-over ear bytes over = ap (λ (b : Bool). record { any = b || is_filled bytes }) over ∙ ap (λ (b : Bool). record { any = b }) (sym over)
