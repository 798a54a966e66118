-- `resume P Q` with journals of both: one journal for P of two sittings. Q has to be what P's journals leave of P, and both
-- sittings have to come to the same text.
use Rattle.std.specs.Prelude.{ℕ, List, [], length, Result, Ok, Err, if◌then◌else◌}
use Rattle.std.specs.Str.{bytes_eq}
use Rattle.redl_commands.specs.Join.{book_text}
use Rattle.redl_commands.specs.Write.{left_text}
use Rattle.redl_commands.specs.Writing.{Writing}
use Rattle.redl_inputs.specs.Admission.{Admission, sitting_over}
use Rattle.redl_inputs.specs.Packages.{package_file, package_in}
use Rattle.redl_inputs.specs.Readers.{Reader}
use Rattle.redl_inputs.specs.Steps.{◌>>=◌}
use Rattle.redl_io.specs.Limits.{journal_bytes}
use Rattle.redl_io.specs.Shelf.{Files}
use Rattle.redl_journal.specs.declared.entry.Entry.{Entry}
use Rattle.redl_lines.specs.Failures.{Failure, caused, unread, no_memory, Cause, no_package, no_second, not_written, differ}
use Rattle.redl_session.specs.Says.{says_of}
use Rattle.redl_session.specs.Sessions.{SessionState, says}
use Rattle.redl_sittings.specs.JoinedBooks.{joined_book}
use Rattle.redl_sittings.specs.SecondNumbers.{first_numbers}
use Rattle.redl_tree.specs.Decisions.Packages.{pass_package}
use Rattle.redl_tree.specs.Model.Text.{text}

-- ---- what two sittings come to

-- the text of a session's package under the verdicts of a book
abbrev pub text_under : SessionState → List Entry → List ℕ
text_under state book = text (pass_package (says_of book (length state.revisions)) state.nodes)

-- the joined book of two sessions
abbrev pub book_of : SessionState → SessionState → List Entry
book_of first second =
    joined_book first.book second.book (first_numbers (pass_package (says first) first.nodes) second.nodes (length second.revisions))

-- the journal of two sittings, where they come to the same text
abbrev pub resumption : Admission → Admission → Result Writing Failure
resumption first second =
    if bytes_eq (text_under first.state (book_of first.state second.state)) (left_text second.state)
    then Ok (record {
      bytes = book_text first.document (book_of first.state second.state);
      remarks = record { refused = first.remarks.refused; second = second.remarks.refused; idle = []; notes = [] };
    })
    else Err (caused differ)

-- ---- the second sitting

-- a text, where it is what a session leaves of its package
abbrev pub left_by : SessionState → List ℕ → Result (List ℕ) Failure
left_by state whole = if bytes_eq whole (left_text state) then Ok whole else Err (caused not_written)

-- why the second of two files is no package
abbrev pub second_cause : Cause → Cause
second_cause (no_package fault) = no_second fault
second_cause cause = cause

-- a failure of the second package
abbrev pub second_failure : Failure → Failure
second_failure (caused cause) = caused (second_cause cause)
second_failure (unread name) = unread name
second_failure no_memory = no_memory

-- a result that was made of the second package: its failure says so
abbrev pub of_second : {X : Type 0} → Result X Failure → Result X Failure
of_second (Ok x) = Ok x
of_second (Err failure) = Err (second_failure failure)

-- a sitting over the package with this text, as the second of two; at most `left` bytes of journals may come
abbrev pub sitting_on : Reader → Files → ℕ → List (List ℕ) → List ℕ → Result (Admission × ℕ) Failure
sitting_on reader files left journals whole = of_second (package_in reader whole) >>= sitting_over reader files left journals whole

-- the same over the package of this name, which has to be what the first sitting left
abbrev pub second_sitting : Reader → Files → List ℕ → List (List ℕ) → Admission × ℕ → Result (Admission × ℕ) Failure
second_sitting reader files name journals one = do
  fetched ← package_file files name
  whole ← left_by one.0.state fetched
  sitting_on reader files one.1 journals whole

-- ---- both

-- the first sitting, over the package with this text
abbrev pub first_sitting : Reader → Files → List (List ℕ) → List ℕ → Result (Admission × ℕ) Failure
first_sitting reader files journals whole = package_in reader whole >>= sitting_over reader files journal_bytes journals whole

-- what is written of this first sitting, of a second package with this text and of its journals; at most `left` bytes of these may come
abbrev pub resumed_on : Reader → Files → ℕ → List (List ℕ) → List ℕ → Admission → Result Writing Failure
resumed_on reader files left journals whole one = sitting_on reader files left journals whole >>= (λ two. resumption one two.0)

-- the same of a second package of this name
abbrev pub resumed_with : Reader → Files → List ℕ → List (List ℕ) → Admission × ℕ → Result Writing Failure
resumed_with reader files name journals one = second_sitting reader files name journals one >>= (λ two. resumption one.0 two.0)

-- what is written of the package with this text, of a second one of this name, and of the journals of both
abbrev pub resumed : Reader → Files → List ℕ → List (List ℕ) → List (List ℕ) → List ℕ → Result Writing Failure
resumed reader files name firsts journals whole = first_sitting reader files firsts whole >>= resumed_with reader files name journals
