-- Journals that decide every revision in one way come to what `settle` writes.
use Rattle.std.proofs.Common.{◌≡◌, ◌≤◌, ◌<◌, ◌+◌, ℕ, zero, suc, Bool, true, false, List, ◌∷◌, length, map, replicate, Result, Ok, refl, sym, ap, ◌∙◌, arith}
use Rattle.std.specs.List.{range_with_len}
use Rattle.redl_commands.specs.Settle.{passed_text, same_says, settled, settled_under, settling}
use Rattle.redl_commands.specs.Write.{resolved, written}
use Rattle.redl_commands.specs.Writing.{Writing, outcome_of}
use Rattle.redl_index.proofs.RevisionLaws.{length-revisions_of}
use Rattle.redl_index.specs.Numbers.{numbered_package, package_revisions}
use Rattle.redl_inputs.proofs.StepLaws.{both_ok, same_ok}
use Rattle.redl_inputs.specs.Admission.{Admission, admission_with, no_admission, opened, opened_over}
use Rattle.redl_inputs.specs.Journals.{document_of, gathered}
use Rattle.redl_inputs.specs.Packages.{package_file, package_in}
use Rattle.redl_inputs.specs.Readers.{Reader, IsReader}
use Rattle.redl_inputs.specs.Steps.{◌>>=◌}
use Rattle.redl_io.specs.Limits.{journal_bytes}
use Rattle.redl_io.specs.Shelf.{Files}
use Rattle.redl_join.specs.Verdicts.{verdict_at}
use Rattle.redl_kinds.specs.declared.lock.Lock.{Lock}
use Rattle.redl_lines.specs.Failures.{Failure}
use Rattle.redl_sound.proofs.Locked.Opened.{shape-read}
use Rattle.redl_outcome.proofs.LeftLaws.{is_made}
use Rattle.redl_outcome.specs.Brought.{Brought}
use Rattle.redl_outcome.specs.Outcome.{writing_of}
use Rattle.redl_rounds_sound.specs.Rounds.{AlikeIsSettled, AllHave, settled_verdict}
use Rattle.redl_session.specs.Says.{say_of_verdict}
use Rattle.redl_session.specs.Sessions.{says}
use Rattle.redl_tree.specs.Decisions.Packages.{pass_package}
use Rattle.redl_tree.specs.Model.Nodes.{Nodes}
use Rattle.redl_tree.specs.Model.Text.{text}
use Rattle.redl_tree.specs.declared.kinds.Say.{Say}

-- ---- the says

one_say : (f : ℕ → Say) (first n : ℕ) (say : Say) → ((k : ℕ) → first ≤ k → k < first + n → f k ≡ say) → map f (range_with_len first n) ≡ replicate n say
one_say f first zero say each = refl
one_say f first (suc n) say each =
    ap (λ (s : Say). s ∷ map f (range_with_len (first + 1) n)) (each first (omega arith) (omega arith))
    ∙ ap (λ (more : List Say). say ∷ more) (one_say f (first + 1) n say (λ k above below. each k (omega (arith, above)) (omega (arith, below))))

say_is : (accept : Bool) → say_of_verdict (settled_verdict accept) ≡ settling accept
say_is true = refl
say_is false = refl

alike_says : (accept : Bool) (admission : Admission) → AllHave (settled_verdict accept) admission → says admission.state ≡ replicate (length admission.state.revisions) (settling accept)
alike_says accept admission all =
    one_say (λ rev. say_of_verdict (verdict_at admission.state.book rev)) 1 (length admission.state.revisions) (settling accept)
    (λ rev some within. ap say_of_verdict (all rev some (omega (arith, within))) ∙ say_is accept)

-- ---- the session

-- the session over a package that was read, and what it decides
record Opens (reader : Reader) (files : Files) (locks : List Lock) (journals : List (List ℕ)) (whole : List ℕ) (nodes : Nodes) (admission : Admission) : Type 0 where
  pub nodes_of : admission.state.nodes ≡ numbered_package nodes
  pub count_of : length admission.state.revisions ≡ package_revisions nodes

opens_over : (reader : Reader) (files : Files) (locks : List Lock) (journals : List (List ℕ)) (whole : List ℕ) (nodes : Nodes) (admission : Admission)
    → package_in reader whole ≡ Ok nodes → opened_over reader files locks journals whole nodes ≡ Ok admission → Opens reader files locks journals whole nodes admission
opens_over reader files locks journals whole nodes admission read is =
    let entries = both_ok (gathered reader files (document_of whole nodes) journal_bytes journals) (λ entries. Ok (admission_with (no_admission whole nodes locks) entries)) admission is in
    let same : admission_with (no_admission whole nodes locks) entries.x ≡ admission = same_ok entries.second in
    record {
      nodes_of = sym (ap (λ (a : Admission). a.state.nodes) same);
      count_of = sym (ap (λ (a : Admission). length a.state.revisions) same) ∙ length-revisions_of nodes (shape-read reader whole nodes read);
    }

-- ---- the calls

settles : (reader : Reader) (files : Files) (accept : Bool) (p whole : List ℕ) (nodes : Nodes) → package_file files p ≡ Ok whole → package_in reader whole ≡ Ok nodes
    → package_file files p >>= settled reader accept ≡ Ok (settled_under (settling accept) nodes)
settles reader files accept p whole nodes file read =
    ap (λ (made : Result (List ℕ) Failure). made >>= settled reader accept) file
    ∙ ap (λ (made : Result Nodes Failure). made >>= (λ nodes. let r : Result Writing Failure = Ok (settled_under (settling accept) nodes) in r)) read

pub alike_is_settled : (reader : Reader) → IsReader reader → (files : Files) (brought : Brought) → AlikeIsSettled reader files brought
alike_is_settled reader is files brought writes others p locks journals accept is_write is_settle done alike =
    let call = is_made (writing_of reader files brought (reader.command writes)) done in
    let made : package_file files p >>= written reader files locks journals ≡ Ok call.0 = ap (writing_of reader files brought) (sym is_write) ∙ call.1 in
    let whole = both_ok (package_file files p) (written reader files locks journals) call.0 made in
    let opens = both_ok (opened reader files locks journals whole.x) (λ admission. Ok (resolved locks admission)) call.0 whole.second in
    let read = both_ok (package_in reader whole.x) (opened_over reader files locks journals whole.x) opens.x opens.first in
    let over = opens_over reader files locks journals whole.x read.x opens.x read.first read.second in
    let decided : says opens.x.state ≡ same_says (settling accept) read.x =
    alike_says accept opens.x (alike whole.x opens.x whole.first opens.first) ∙ ap (λ (n : ℕ). replicate n (settling accept)) over.count_of in
    let bytes : call.0.bytes ≡ passed_text (same_says (settling accept) read.x) read.x =
    ap (λ (w : Writing). w.bytes) (sym (same_ok opens.second))
    ∙ ap (λ (nodes : Nodes). text (pass_package (says opens.x.state) nodes)) over.nodes_of
    ∙ ap (λ (given : List Say). text (pass_package given (numbered_package read.x))) decided in
    let settled_made : writing_of reader files brought (reader.command others) ≡ Ok (settled_under (settling accept) read.x) =
    ap (writing_of reader files brought) is_settle ∙ settles reader files accept p whole.x read.x whole.first read.first in
    record {
      done = ap (λ (m : Result Writing Failure). (outcome_of m).status) settled_made;
      same = ap (λ (m : Result Writing Failure). (outcome_of m).bytes) settled_made ∙ sym bytes ∙ sym (ap (λ (m : Result Writing Failure). (outcome_of m).bytes) call.1);
    }
