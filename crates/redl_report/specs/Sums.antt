-- What the lines of the kinds of an author's revisions count together (our own rule).
use Rattle.std.specs.Prelude.{◌≡◌, ◌&&◌, ℕ, Bool, true, false, List, filter}
use Rattle.std.specs.List.{fold}
use Rattle.std.specs.Str.{bytes_eq}
use Rattle.redl_report.specs.declared.line.ReportLine.{ReportLine}
use Rattle.redl_report.specs.declared.line.Role.{Role}
use Rattle.redl_report.specs.declared.line.Role.TheVariants.{Author, Kind}
use Rattle.redl_report.specs.declared.totals.Totals.{Totals}
use Rattle.redl_report.specs.Tables.{no_revisions, with_counts}

-- the line is about a kind
abbrev pub is_kind : Role → Bool
is_kind (Kind kind) = true
is_kind _ = false

-- the lines of the kinds of this author's revisions
abbrev pub kinds_of : List ReportLine → List ℕ → List ReportLine
kinds_of lines who = filter (λ line. is_kind line.role && bytes_eq line.who who) lines

-- what lines count together
abbrev pub sum_of_lines : List ReportLine → Totals
sum_of_lines lines = fold with_counts no_revisions lines

-- if the line is an author's, the lines of their kinds count together what it counts
abbrev pub KindsAddUp : List ReportLine → ReportLine → Type 0
KindsAddUp lines line = line.role ≡ Author → sum_of_lines (kinds_of lines line.who) ≡ with_counts no_revisions line
