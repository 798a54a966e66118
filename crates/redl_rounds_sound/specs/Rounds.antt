-- Calls that come to the same: journals that were joined, or made of two sittings, stand for those that they were made of, and journals
-- that decide everything in one way stand for that decision (our own rule).
use Rattle.std.specs.Prelude.{◌≡◌, ◌≤◌, ℕ, Bool, true, false, List, [], ◌∷◌, Some, Ok, length}
use Rattle.redl_inputs.specs.Admission.{Admission, opened}
use Rattle.redl_inputs.specs.Packages.{package_file}
use Rattle.redl_inputs.specs.Readers.{Reader}
use Rattle.redl_io.specs.Shelf.{Files}
use Rattle.redl_join.specs.Verdicts.{verdict_at}
use Rattle.redl_join.specs.declared.verdict.Verdict.{Verdict}
use Rattle.redl_join.specs.declared.verdict.Verdict.TheVariants as verdict
use Rattle.redl_kinds.specs.declared.lock.Lock.{Lock}
use Rattle.redl_lines.specs.declared.status.Status.TheVariants as status
use Rattle.redl_outcome.specs.Answers.{IsWritten}
use Rattle.redl_outcome.specs.Brought.{Brought}
use Rattle.redl_outcome.specs.Outcome.{outcome}
use Rattle.redl_rounds_sound.specs.Files.{IsJournalFile}
use Rattle.redl_words.specs.Commands.{join, resume, settle, write}

-- ---- one journal for several

-- Where `write` takes these journals, and `join` wrote one of them, `write` with that one in their place has the same status, bytes and
-- lines.
abbrev pub JoinedStandFor : Reader → Files → Brought → Type 0
JoinedStandFor reader files brought =
    (joins one all : List (List ℕ)) (p name : List ℕ) (locks : List Lock) (journals : List (List ℕ))
    → reader.command joins ≡ Some (join journals)
    → reader.command one ≡ Some (write p locks (name ∷ []))
    → reader.command all ≡ Some (write p locks journals)
    → IsJournalFile files name (outcome reader joins files brought)
    → IsWritten (outcome reader all files brought).status
    → outcome reader one files brought ≡ outcome reader all files brought

-- Without a refusal, a call has the bytes of another one.
pub record StandsForBoth (reader : Reader) (files : Files) (brought : Brought) (one second : List (List ℕ)) : Type 0 where
  pub done : (outcome reader one files brought).status ≡ status.Done
  pub same : (outcome reader one files brought).bytes ≡ (outcome reader second files brought).bytes

-- Where `resume` wrote a journal of two sittings, `write` of the first package with it has the bytes of `write` of the second package with
-- the second one's journals.
abbrev pub ResumedStandsFor : Reader → Files → Brought → Type 0
ResumedStandsFor reader files brought =
    (resumes one second : List (List ℕ)) (p q name : List ℕ) (firsts journals : List (List ℕ))
    → reader.command resumes ≡ Some (resume p q firsts journals)
    → reader.command one ≡ Some (write p [] (name ∷ []))
    → reader.command second ≡ Some (write q [] journals)
    → IsJournalFile files name (outcome reader resumes files brought)
    → IsWritten (outcome reader second files brought).status
    → StandsForBoth reader files brought one second

-- ---- journals that decide all alike

-- the verdict of `settle accept`, and of `settle reject`
abbrev pub settled_verdict : Bool → Verdict
settled_verdict true = verdict.Accept
settled_verdict false = verdict.Reject

-- each revision of the session's package has this verdict
abbrev pub AllHave : Verdict → Admission → Type 0
AllHave one admission = (rev : ℕ) → 1 ≤ rev → rev ≤ length admission.state.revisions → verdict_at admission.state.book rev ≡ one

-- of the package of this name, and with these locks, the journals decide every revision in this one way
abbrev pub DecideAlike : Reader → Files → List ℕ → List Lock → List (List ℕ) → Bool → Type 0
DecideAlike reader files p locks journals accept =
    (whole : List ℕ) (admission : Admission) → package_file files p ≡ Ok whole → opened reader files locks journals whole ≡ Ok admission
    → AllHave (settled_verdict accept) admission

-- a call is done, and has these bytes
pub record IsDoneWith (reader : Reader) (words : List (List ℕ)) (files : Files) (brought : Brought) (bytes : List ℕ) : Type 0 where
  pub done : (outcome reader words files brought).status ≡ status.Done
  pub same : (outcome reader words files brought).bytes ≡ bytes

-- Where the journals of `write` decide every revision in one way, `settle` writes the same bytes.
abbrev pub AlikeIsSettled : Reader → Files → Brought → Type 0
AlikeIsSettled reader files brought =
    (writes settles : List (List ℕ)) (p : List ℕ) (locks : List Lock) (journals : List (List ℕ)) (accept : Bool)
    → reader.command writes ≡ Some (write p locks journals)
    → reader.command settles ≡ Some (settle accept p)
    → IsWritten (outcome reader writes files brought).status
    → DecideAlike reader files p locks journals accept
    → IsDoneWith reader settles files brought (outcome reader writes files brought).bytes
