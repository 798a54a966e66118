-- The text of the format `table`, for a terminal (our own rule): a head, a line for each line of the report, and when it is closed a
-- last line that adds up the lines of the authors, so that it counts all revisions.
use Rattle.std.specs.Prelude.{◌≡◌, ◌≤◌, ◌+◌, ℕ, Bool, true, false, List, [], ◌++◌, codes, decimal, vec_len, vec_capacity, Vec}
use Rattle.std.specs.Global.{Global}
use Rattle.std.specs.List.{flat_map, fold}
use Rattle.redl_formats.specs.Fields.{space, newline, right_in, left_in}
use Rattle.redl_terminal.specs.Masks.{masked}
use Rattle.redl_terminal.specs.declared.extent.Extent.TheVariants.{Field}
use Rattle.redl_report.specs.declared.line.ReportLine.{ReportLine}
use Rattle.redl_report.specs.declared.line.Role.{Role}
use Rattle.redl_report.specs.declared.line.Role.TheVariants.{Reviewer, Author, Kind}
use Rattle.redl_report.specs.declared.totals.Totals.{Totals}
use Rattle.redl_report.specs.Texts.{label_of, role_name}

-- ---- all revisions

abbrev pub no_revisions : Totals
no_revisions = record { accept = 0; reject = 0; disputed = 0; undecided = 0 }

-- with the revisions of a line more
abbrev pub with_counts : Totals → ReportLine → Totals
with_counts totals line = record {
  accept = totals.accept + line.accept;
  reject = totals.reject + line.reject;
  disputed = totals.disputed + line.disputed;
  undecided = totals.undecided + line.undecided;
}

-- the same, where the line is an author's: reviewers speak of the same revisions, and a kind's are among the author's
abbrev pub with_role : Role → Totals → ReportLine → Totals
with_role Reviewer totals line = totals
with_role Author totals line = with_counts totals line
with_role (Kind kind) totals line = totals

abbrev pub with_line : Totals → ReportLine → Totals
with_line totals line = with_role line.role totals line

abbrev pub totals_of : List ReportLine → Totals
totals_of lines = fold with_line no_revisions lines

-- ---- the text

abbrev pub cell : ℕ → List ℕ
cell count = right_in 8 (decimal count) ++ space

unfoldable pub cells : Totals → List ℕ
cells counts = cell counts.accept ++ (cell counts.reject ++ (cell counts.disputed ++ cell counts.undecided))

abbrev pub head : List ℕ
head = codes "role       accept   reject disputed     open name\n"

-- whom it is about, four counts and a name in columns
unfoldable pub table_row : List ℕ → Totals → List ℕ → List ℕ
table_row first counts last = left_in 8 first ++ (space ++ (cells counts ++ (last ++ newline)))

abbrev pub table_line : ReportLine → List ℕ
table_line line = table_row (role_name line.role) (with_counts no_revisions line) (masked Field (label_of line.role line.who))

abbrev pub last_line : Totals → List ℕ
last_line totals = table_row (codes "all") totals (codes "revisions")

abbrev pub end_of : Bool → Totals → List ℕ
end_of false totals = []
end_of true totals = last_line totals

-- the table of a report, with its last line where it is closed
abbrev pub table_report : List ReportLine → Bool → List ℕ
table_report lines closed = head ++ (flat_map table_line lines ++ end_of closed (totals_of lines))

-- what code keeps of the table: its text, the last line, and until it is closed room for that
pub record IsTableDraft (lines : List ReportLine) (closed : Bool) (totals : Totals) (text last : Vec ℕ Global) : Type 0 where
  pub table : text.items ≡ table_report lines closed
  pub added : totals ≡ totals_of lines
  pub last_is : last.items ≡ last_line totals
  pub room : closed ≡ false → vec_len text + vec_len last ≤ vec_capacity text
