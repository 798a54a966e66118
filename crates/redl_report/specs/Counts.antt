-- Counting of verdicts, one by one, and what lines keep.
use Rattle.std.specs.Prelude.{◌+◌, ◌||◌, ℕ, nat_le, Bool, IsTrue}
use Rattle.std.specs.Str.{IsUtf8}
use Rattle.redl_join.specs.declared.verdict.Verdict.{Verdict}
use Rattle.redl_join.specs.declared.verdict.Verdict.TheVariants.{Undecided, Accept, Reject, Disputed}
use Rattle.redl_kinds.specs.Kinds.{is_named}
use Rattle.redl_report.specs.declared.line.ReportLine.{ReportLine}
use Rattle.redl_report.specs.declared.line.Role.{Role}
use Rattle.redl_report.specs.declared.line.Role.TheVariants.{Kind}

-- all revisions that a line counts
abbrev pub sum_of : ReportLine → ℕ
sum_of line = line.accept + line.reject + line.disputed + line.undecided

-- the line with a revision more on which this was decided
abbrev pub with_verdict : ReportLine → Verdict → ReportLine
with_verdict line Accept = record line { accept = line.accept + 1 }
with_verdict line Reject = record line { reject = line.reject + 1 }
with_verdict line Disputed = record line { disputed = line.disputed + 1 }
with_verdict line Undecided = record line { undecided = line.undecided + 1 }

-- the line counts a revision
abbrev pub counts_any : ReportLine → Bool
counts_any line = nat_le 1 line.accept || (nat_le 1 line.reject || (nat_le 1 line.disputed || nat_le 1 line.undecided))

-- the kind that a line is about has a name
abbrev pub HasKindName : Role → Type 0
HasKindName (Kind kind) = IsTrue (is_named kind)
HasKindName _ = Unit {0}

-- what a line keeps: its name is UTF-8, and its kind has a name
pub record IsLine (line : ReportLine) : Type 0 where
  pub who : IsUtf8 line.who
  pub kind : HasKindName line.role
