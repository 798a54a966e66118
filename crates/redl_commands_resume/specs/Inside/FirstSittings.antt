-- What the code keeps of a first sitting once its package is gone.
use Rattle.std.specs.Prelude.{◌≡◌, ℕ, List, [], Result, Ok, Err, map, length, if◌then◌else◌}
use Rattle.std.specs.Str.{bytes_eq}
use Rattle.redl_commands.specs.Join.{book_text}
use Rattle.redl_commands_shown.specs.Resume.{sitting_on, text_under}
use Rattle.redl_commands.specs.Settle.{passed_text}
use Rattle.redl_commands.specs.Write.{left_text}
use Rattle.redl_commands.specs.Writing.{Writing}
use Rattle.redl_commands_resume.specs.declared.resume.First.{First}
use Rattle.redl_commands_resume.specs.declared.resume.Joined.{Joined}
use Rattle.redl_index.specs.Numbers.{numbered_package, package_revisions}
use Rattle.redl_index.specs.Revisions.{revisions_of}
use Rattle.redl_inputs.specs.Admission.{Admission}
use Rattle.redl_inputs.specs.Packages.{package_in}
use Rattle.redl_inputs.specs.Readers.{Reader, IsReader}
use Rattle.redl_inputs.specs.Steps.{◌>>=◌}
use Rattle.redl_inputs.specs.Views.{document_view}
use Rattle.redl_io.specs.Shelf.{Files}
use Rattle.redl_journal.specs.declared.entry.Entry.{Entry}
use Rattle.redl_lines.specs.Failures.{Failure, caused, differ}
use Rattle.redl_lines.specs.Refused.{RefusedEntries}
use Rattle.redl_session.specs.Says.{says_of}
use Rattle.redl_session.specs.Sessions.{says}
use Rattle.redl_sittings.specs.JoinedBooks.{decided, with_second}
use Rattle.redl_sittings.specs.SecondNumbers.{numbers_beside, part_numbers, parts_beside}
use Rattle.redl_tree.specs.Decisions.Packages.{pass_package}
use Rattle.redl_tree.specs.Model.Nodes.{Nodes}

-- it is what is kept of this sitting
pub record IsFirst (one : Admission) (first : First) : Type 0 where
  pub document : document_view first.document ≡ one.document
  pub decided_book : first.decided ≡ decided one.state.book
  pub numbers : map (λ part. part.items) first.numbers.items ≡ part_numbers (pass_package (says one.state) one.state.nodes)
  pub refused : first.refused ≡ one.remarks.refused

-- the sitting was over the package with this text
pub record IsReadAgain (whole : List ℕ) (one : Admission) : Type 0 where
  pub nodes : Nodes
  pub read : (reader : Reader) → IsReader reader → package_in reader whole ≡ Ok nodes
  pub numbered : one.state.nodes ≡ numbered_package nodes
  pub revisions : one.state.revisions ≡ revisions_of nodes

-- what a second sitting comes to: the joined book, the text of its package under its own verdicts, and its refused entries
pub record SecondSitting : Type 0 where
  pub book : List Entry
  pub text : List ℕ
  pub refused : RefusedEntries

-- that of this second sitting, after a first one that decided the book `before` and left these numbers
abbrev pub joined_by : List Entry → List (List ℕ) → Admission → SecondSitting
joined_by before numbers two = record {
  book = with_second before two.state.book (numbers_beside (parts_beside (part_numbers two.state.nodes) numbers) (length two.state.revisions));
  text = left_text two.state;
  refused = two.remarks.refused;
}

-- what a clause sees of the code's value
abbrev pub joined_view : Joined → SecondSitting
joined_view joined = record { book = joined.book; text = joined.text.items; refused = joined.refused }

-- what is written of a first sitting and of this second one
abbrev pub resumption_of : Admission → SecondSitting → Result Writing Failure
resumption_of one second =
    if bytes_eq (text_under one.state second.book) second.text
    then Ok (record {
      bytes = book_text one.document second.book;
      remarks = record { refused = one.remarks.refused; second = second.refused; idle = []; notes = [] };
    })
    else Err (caused differ)

-- ---- what is read for it

-- what the second sitting comes to, over the package with this text; at most `left` bytes of journals may come
abbrev pub second_joined : Reader → Files → ℕ → List (List ℕ) → List ℕ → List Entry → List (List ℕ) → Result SecondSitting Failure
second_joined reader files left journals whole before numbers = sitting_on reader files left journals whole >>= (λ two. Ok (joined_by before numbers two.0))

-- the text that the package with this text has under the verdicts of a book
abbrev pub read_under : Reader → List ℕ → List Entry → Result (List ℕ) Failure
read_under reader whole book = package_in reader whole >>= (λ nodes. Ok (passed_text (says_of book (package_revisions nodes)) nodes))
