-- Worked rows of reports, by computing.
use Prim.Native.String.{String}
use Rattle.std.proofs.Common.{◌≡◌, ℕ, List, [], ◌∷◌, true, None, refl}
use Rattle.std.specs.Prelude.{codes}
use Rattle.std.specs.Fmt.{digits}
use Rattle.redl_index.specs.declared.revision.Revision.{Revision}
use Rattle.redl_kinds.specs.declared.rev_kind.RevKind.TheVariants.{Content}
use Rattle.redl_tree.specs.declared.kinds.Trace.TheVariants.{Ins}
use Rattle.redl_journal.specs.declared.entry.Entry.{Entry}
use Rattle.redl_journal.specs.declared.entry.Word.{Word}
use Rattle.redl_journal.specs.declared.entry.Word.TheVariants as word
use Rattle.redl_join.specs.Books.{union}
use Rattle.redl_terminal.specs.Masks.{hidden_length}
use Rattle.redl_report.specs.declared.line.ReportLine.{ReportLine}
use Rattle.redl_report.specs.declared.line.Role.{Role}
use Rattle.redl_report.specs.declared.line.Role.TheVariants.{Reviewer, Author}
use Rattle.redl_report.specs.Reports.{report_lines}
use Rattle.redl_report.specs.Tables.{cells, table_report, table_row}
use Rattle.redl_report.specs.Texts.{count_columns, text_line, text_report, json_report}

abbrev revision : ℕ → String → Revision
revision n who = record { number = n; kind = Content Ins; author = codes who; seconds = None; part = 0; members = 1 }

abbrev entry : ℕ → ℕ → Word → ℕ → String → Entry
entry seq rev word rank who = record { reviewer = codes who; seq = seq; rev = rev; word = word; rank = rank }

revisions : List Revision
revisions = revision 1 "Ann" ∷ revision 2 "Bob" ∷ revision 3 "Cy & Co" ∷ []

abbrev dee : List Entry
dee = entry 1 1 word.Accept 0 "Dee" ∷ entry 1 2 word.Reject 0 "Dee" ∷ []

abbrev eve : List Entry
eve = entry 1 2 word.Accept 0 "Eve" ∷ []

abbrev line : Role → String → ℕ → ℕ → ℕ → ℕ → ReportLine
line role who accept reject disputed undecided =
    record { role = role; who = codes who; accept = accept; reject = reject; disputed = disputed; undecided = undecided }

abbrev five : List ReportLine
five =
    line Reviewer "Dee" 1 1 0 0 ∷ line Reviewer "Eve" 1 0 0 0
    ∷ line Author "Ann" 1 0 0 0 ∷ line Author "Bob" 0 0 1 0 ∷ line Author "Cy & Co" 0 0 0 1 ∷ []

-- journals with repeats, in any order
row_lines : (report_lines revisions (union (union (union [] eve) dee) eve) ≡ five) × (report_lines revisions (union (union [] dee) eve) ≡ five)
unfolding revisions
row_lines = (refl, refl)

row_text : text_report five true
    ≡ codes "reviewer       1       1       0       0 Dee\nreviewer       1       0       0       0 Eve\nauthor         1       0       0       0 Ann\nauthor         0       0       1       0 Bob\nauthor         0       0       0       1 Cy & Co\n"
unfolding text_line count_columns digits hidden_length
row_text = refl

-- the same for a terminal
row_table : table_report five true
    ≡ codes "role       accept   reject disputed     open name\nreviewer        1        1        0        0 Dee\nreviewer        1        0        0        0 Eve\nauthor          1        0        0        0 Ann\nauthor          0        0        1        0 Bob\nauthor          0        0        0        1 Cy & Co\nall             1        0        1        1 revisions\n"
unfolding table_row cells digits hidden_length
row_table = refl

-- older words of a reviewer don't count, nor do words of lower rank under the same seq, and a withdrawn word leaves its revision open
row_own : report_lines revisions (union [] (entry 1 1 word.Accept 9 "Dee" ∷ entry 2 1 word.Reject 0 "Dee" ∷ entry 3 2 word.Accept 1 "Dee" ∷ entry 3 2 word.Reject 2 "Dee" ∷ entry 1 3 word.Accept 0 "Dee" ∷ entry 2 3 word.Withdraw 0 "Dee" ∷ []))
    ≡ line Reviewer "Dee" 0 2 0 1 ∷ line Author "Ann" 0 1 0 0 ∷ line Author "Bob" 0 1 0 0 ∷ line Author "Cy & Co" 0 0 0 1 ∷ []
unfolding revisions
row_own = refl

-- entries on no revision count nothing
row_no_revision : report_lines [] (union [] dee) ≡ line Reviewer "Dee" 0 0 0 0 ∷ []
row_no_revision = refl

-- an author without a name, and no journals
row_author : report_lines (revision 1 "" ∷ revision 2 "Ann" ∷ revision 3 "" ∷ []) [] ≡ line Author "" 0 0 0 2 ∷ line Author "Ann" 0 0 0 1 ∷ []
row_author = refl

row_none : (report_lines [] [] ≡ []) × (json_report [] true ≡ codes "[]\n")
row_none = (refl, refl)
