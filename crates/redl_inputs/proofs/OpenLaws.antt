-- A session over a package and its journals.
use Rattle.std.proofs.Common.{◌≡◌, ℕ, List, [], Option, None, Result, Ok, refl, sym, ap, subst}
use Rattle.redl_inputs.proofs.AskLaws.{asks_for_all, asks_nothing}
use Rattle.redl_inputs.specs.Admission.{Admission, admission_of}
use Rattle.redl_inputs.specs.Asking.{files_within}
use Rattle.redl_inputs.specs.Reading.{ReadsFiles}
use Rattle.redl_io.specs.Shelf.{Files}
use Rattle.redl_io.specs.declared.shelf.Request.{Request}
use Rattle.redl_lines.specs.Failures.{Failure}

-- what became of the entries of journals, where the session was this one
pub opens : {S : Type 0} {told : S → Option Files} {faults : S → ℕ} {asked : S → Option (List Request)} {old new : S} {wanted : List Request} {made : Result Admission Failure} (most : ℕ) (names : List (List ℕ)) (started first : Admission)
    → started ≡ first
    → ReadsFiles told faults asked old new wanted made (λ reader files. admission_of reader files started most names)
    → ReadsFiles told faults asked old new wanted made (λ reader files. admission_of reader files first most names)
opens {told = told} {faults = faults} {asked = asked} {old = old} {new = new} {wanted = wanted} {made = made} most names started first same step =
    subst (λ a. ReadsFiles told faults asked old new wanted made (λ reader files. admission_of reader files a most names)) same step

-- without a journal no entry comes
pub opens_nothing : {S : Type 0} {told : S → Option Files} {faults : S → ℕ} {asked : S → Option (List Request)} (shelf : S) (most : ℕ) (started first : Admission) (names : List (List ℕ)) → names ≡ [] → started ≡ first
    → ReadsFiles told faults asked shelf shelf (files_within most names) (Ok started) (λ reader files. admission_of reader files first most names)
opens_nothing {asked = asked} shelf most started first names none same =
    rw none (record {
      as_due = λ files may reader is. ap Ok (sym same);
      unread = tt;
      same_files = refl;
      stands = refl;
      asks = asks_for_all None (Ok started) [] tt tt (asks_nothing (asked shelf));
    })
