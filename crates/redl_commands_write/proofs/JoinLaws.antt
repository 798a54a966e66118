-- The union of journals.
use Rattle.std.proofs.Common.{◌≡◌, ◌≢◌, ◌<◌, ◌≤◌, ◌-◌, ℕ, List, [], ◌∷◌, length, take, drop, get_or, Option, Result, refl, ap, ◌∙◌, subst, arith}
use Rattle.std.proofs.lemmas.List.{take_all}
use Rattle.redl_commands.specs.Join.{joined}
use Rattle.redl_commands.specs.Writing.{Writing}
use Rattle.redl_inputs.specs.Asking.{files_within}
use Rattle.redl_inputs.specs.Reading.{ReadsFiles}
use Rattle.redl_io.specs.Limits.{journal_bytes}
use Rattle.redl_io.specs.Shelf.{Files}
use Rattle.redl_io.specs.declared.shelf.Request.{Request}
use Rattle.redl_lines.specs.Failures.{Failure}

-- a list is its first item and the rest
pub first_rest : (xs : List (List ℕ)) (x : List ℕ) → 1 ≤ length xs → x ≡ get_or xs 0 x → x ∷ take (length xs - 1) (drop 1 xs) ≡ xs
first_rest [] x some is = absurd (omega (arith, some))
first_rest (y ∷ ys) x some is =
    ap (λ z. z ∷ take (length (y ∷ ys) - 1) ys) is ∙ ap (λ zs. y ∷ zs) (take_all (length (y ∷ ys) - 1) ys (omega arith))

pub joins_same : {S : Type 0} {told : S → Option Files} {faults : S → ℕ} {asked : S → Option (List Request)} {old new : S} {made : Result Writing Failure} (names others : List (List ℕ)) → names ≡ others
    → ReadsFiles told faults asked old new (files_within journal_bytes names) made (λ reader files. joined reader files journal_bytes names)
    → ReadsFiles told faults asked old new (files_within journal_bytes others) made (λ reader files. joined reader files journal_bytes others)
joins_same {told = told} {faults = faults} {asked = asked} {old = old} {new = new} {made = made} names others same step =
    subst (λ ns. ReadsFiles told faults asked old new (files_within journal_bytes ns) made (λ reader files. joined reader files journal_bytes ns)) same step

-- a list that is shorter than one is empty
pub no_names : (names : List (List ℕ)) → length names < 1 → names ≢ [] → ⊥
no_names [] none some = some refl
no_names (name ∷ names) none some = absurd (omega (arith, none))
