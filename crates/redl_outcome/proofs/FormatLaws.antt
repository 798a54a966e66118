-- The step before the package: whether the formats are there that a command asks for.
use Rattle.std.proofs.Common.{◌≡◌, ◌↔◌, ℕ, List, [], Option, None, Some, Result, Ok, Err, refl, sym, ap, ◌∙◌, subst}
use Rattle.redl_outcome.specs.Answers.{LacksFormat}
use Rattle.redl_outcome.specs.Brought.{Brought}
use Rattle.redl_outcome.specs.Files.{where_ok}
use Rattle.redl_outcome.specs.Plans.{Plan, has_asked}
use Rattle.redl_commands.specs.Endings.{Ends}
use Rattle.redl_commands_shown.specs.Formats.{Format, found_format, has_format, whether}
use Rattle.redl_commands.specs.Writing.{Writing}
use Rattle.redl_inputs.proofs.ReadLaws.{fails_alone}
use Rattle.redl_inputs.specs.Readers.{Reader}
use Rattle.redl_inputs.specs.Reading.{IsOfNoFile}
use Rattle.redl_inputs.specs.Steps.{◌>>=◌}
use Rattle.redl_io.specs.Shelf.{Files}
use Rattle.redl_io.specs.declared.shelf.Request.{Request}
use Rattle.redl_lines.proofs.MisuseLaws.{end_is_no_usage}
use Rattle.redl_lines.specs.Ends.{End, end_status, end_view, failed}
use Rattle.redl_lines.specs.Failures.{Cause, Failure, caused, failure_status, misuse_cause, no_format}
use Rattle.redl_lines.specs.declared.end.End.{End as DeclaredEnd}
use Rattle.redl_lines.specs.declared.misuse.Misuse.{Misuse}
use Rattle.redl_lines.specs.declared.misuse.Misuse.TheVariants as misuse
use Rattle.redl_lines.specs.declared.status.Status.TheVariants as status
use Rattle.redl_formats.specs.Formats.{first_named}

-- ---- a format that is not there

-- this is why there is no format of some name
abbrev pub IsMissing : Failure → Type 0
IsMissing failure = (name : List ℕ) × (failure ≡ caused (no_format name))

whether_found : {I : Type 0} (name : List ℕ) (found : Option (Format I)) (failure : Failure) → whether (found_format name found) ≡ Err failure → IsMissing failure
whether_found name None failure is = (name, cc is)
whether_found name (Some format) failure is = absurd (cc is)

no_format_of : {I : Type 0} (formats : List (Format I)) (asked : Option (List ℕ)) (failure : Failure) → has_format formats asked ≡ Err failure → IsMissing failure
no_format_of formats None failure is = absurd (cc is)
no_format_of formats (Some name) failure is = whether_found name (first_named (λ format. format.name) name formats) failure is

-- what a command asks for is not there for no other cause
pub is_missing : (brought : Brought) (plan : Plan) (failure : Failure) → has_asked brought plan ≡ Err failure → IsMissing failure
is_missing brought plan failure is = by (has_format brought.formats plan.format) refl is where
  by : (found : Result (Unit {0}) Failure) → has_format brought.formats plan.format ≡ found → found >>= (λ there. has_format brought.reports plan.report) ≡ Err failure → IsMissing failure
  by (Ok there) found is = no_format_of brought.reports plan.report failure is
  by (Err cause) found is = no_format_of brought.formats plan.format failure (found ∙ is)

-- a call ends so exactly where the format that its command asks for is missing
pub lacks_format : (brought : Brought) (plan : Plan) (cause : Cause) → has_asked brought plan ≡ Err (caused cause)
    → (end_status (failed (caused cause)) ≡ status.Usage) ↔ LacksFormat brought plan
lacks_format brought plan cause is =
    let missing : IsMissing (caused cause) = is_missing brought plan (caused cause) is in
    (λ _. (missing.0, subst (λ (failure : Failure). has_asked brought plan ≡ Err failure) missing.1 is), λ _. ap failure_status missing.1)

-- a command that was carried out lacked no format, and its end is of another status
pub has_its_format : (brought : Brought) (plan : Plan) (end : DeclaredEnd) → has_asked brought plan ≡ Ok tt → (end_status (end_view end) ≡ status.Usage) ↔ LacksFormat brought plan
has_its_format brought plan end there = (λ usage. absurd (end_is_no_usage end usage), λ lacks. absurd (cc (sym there ∙ lacks.1)))

-- ---- how a call ends

-- misused words refuse no journal
pub misuse_of_none : (words : Misuse) → IsOfNoFile {Y = Writing} None (Err (caused (misuse_cause words)))
misuse_of_none misuse.Words = tt
misuse_of_none (misuse.NoFormat name) = tt

-- a call ends before it asks for a file
pub ends_at_once : {S K : Type 0} {holds : S → Option Files} {misses : S → ℕ} {asked : S → Option (List Request)} (shelf : S) {told : K → Option (List ℕ)} {faults : K → ℕ} (out : K)
    (there : Result (Unit {0}) Failure) (wanted : List Request) (next : Reader → Files → Result Writing Failure) (cause : Cause) → IsOfNoFile {Y = Writing} None (Err (caused cause)) → there ≡ Err (caused cause)
    → Ends holds misses asked shelf shelf told faults out out (where_ok there wanted) (λ reader files. there >>= (λ found. next reader files)) (failed (caused cause))
ends_at_once shelf out there wanted next cause of is = rw is (record {
  made = Err (caused cause);
  reads = fails_alone shelf [] of (λ reader files reads. refl);
  finishes = (refl, refl, refl);
})

-- the format is there, and the call goes on
pub ends_after : {S K : Type 0} {holds : S → Option Files} {misses : S → ℕ} {asked : S → Option (List Request)} {shelf shelf_new : S} {told : K → Option (List ℕ)} {faults : K → ℕ} {out out_new : K}
    (end : End) (there : Result (Unit {0}) Failure) (wanted : List Request) (next : Reader → Files → Result Writing Failure) (found : Unit {0}) → there ≡ Ok found
    → Ends holds misses asked shelf shelf_new told faults out out_new wanted next end
    → Ends holds misses asked shelf shelf_new told faults out out_new (where_ok there wanted) (λ reader files. there >>= (λ one. next reader files)) end
ends_after end there wanted next found is ends = rw is ends
