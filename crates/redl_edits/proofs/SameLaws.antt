-- Lists of changed properties of different lengths are different.
use Rattle.std.proofs.Common.{◌≡◌, ◌&&◌, suc, true, false, List, [], ◌∷◌, length, refl, ap}
use Rattle.redl_properties.specs.declared.change.Changed.{Changed}
use Rattle.redl_edits.specs.Formatted.{same_change, same_changes}

pub same_changes-length : (one two : List Changed) → (length one ≡ length two → ⊥) → same_changes one two ≡ false
same_changes-length [] [] differ = absurd (differ refl)
same_changes-length [] (two ∷ twos) differ = refl
same_changes-length (one ∷ ones) [] differ = refl
same_changes-length (one ∷ ones) (two ∷ twos) differ =
    rw (same_changes-length ones twos (λ e. differ (ap suc e)))
    (elim (same_change one two) as (λ b. b && false ≡ false) [ true ↦ refl | false ↦ refl ])
