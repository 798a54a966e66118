-- Where each reviewer and each author stands (our own rule): how many revisions are accepted, rejected, disputed and undecided by
-- a reviewer's own words, and by the verdicts on an author's revisions.
use Rattle.std.specs.Prelude.{◌&&◌, ℕ, nat_le, Bool, true, false, List, [], ◌∷◌, ◌++◌, map, filter, length}
use Rattle.std.specs.BTreeSet.{insert_key}
use Rattle.std.specs.List.{flat_map, fold}
use Rattle.std.specs.Ordering.{nat_cmp}
use Rattle.redl_kinds.specs.declared.kind_names.TheConstants.{KINDS}
use Rattle.redl_kinds.specs.declared.rev_kind.RevKind.{RevKind}
use Rattle.redl_index.specs.declared.revision.Revision.{Revision}
use Rattle.redl_kinds.specs.Kinds.{is_same_kind}
use Rattle.redl_journal.specs.declared.entry.Entry.{Entry}
use Rattle.redl_join.specs.Verdicts.{verdict_at}
use Rattle.redl_join.specs.declared.verdict.Verdict.{Verdict}
use Rattle.redl_join.specs.declared.verdict.Verdict.TheVariants.{Undecided, Accept, Reject, Disputed}
use Rattle.redl_report.specs.declared.line.ReportLine.{ReportLine}
use Rattle.redl_report.specs.declared.line.Role.{Role}
use Rattle.redl_report.specs.declared.line.Role.TheVariants.{Reviewer, Author, Kind}
use Rattle.redl_report.specs.Counts.{counts_any}
use Rattle.redl_report.specs.Groups.{Group, grouped}

-- ---- verdicts, counted

abbrev pub is_accept : Verdict → Bool
is_accept Accept = true
is_accept Reject = false
is_accept Disputed = false
is_accept Undecided = false

abbrev pub is_reject : Verdict → Bool
is_reject Accept = false
is_reject Reject = true
is_reject Disputed = false
is_reject Undecided = false

abbrev pub is_disputed : Verdict → Bool
is_disputed Accept = false
is_disputed Reject = false
is_disputed Disputed = true
is_disputed Undecided = false

abbrev pub is_undecided : Verdict → Bool
is_undecided Accept = false
is_undecided Reject = false
is_undecided Disputed = false
is_undecided Undecided = true

-- the line of somebody on whose revisions these are the verdicts
abbrev pub line_of : Role → List ℕ → List Verdict → ReportLine
line_of role who verdicts = record {
  role = role;
  who = who;
  accept = length (filter is_accept verdicts);
  reject = length (filter is_reject verdicts);
  disputed = length (filter is_disputed verdicts);
  undecided = length (filter is_undecided verdicts);
}

-- ---- the lines

abbrev pub reviewer_of : Entry → List ℕ
reviewer_of entry = entry.reviewer

abbrev pub author_of : Revision → List ℕ
author_of revision = revision.author

-- one of so many revisions has this number
abbrev pub is_number : ℕ → ℕ → Bool
is_number count number = nat_le 1 number && nat_le number count

-- the revisions that entries are on, of so many, each once, by their numbers
abbrev pub revisions_on : ℕ → List Entry → List ℕ
revisions_on count entries = fold (insert_key nat_cmp) [] (filter (is_number count) (map (λ entry. entry.rev) entries))

-- a reviewer's line: on each of so many revisions on which they have an entry, what their entries alone decide
abbrev pub reviewer_line : ℕ → Group Entry → ReportLine
reviewer_line count own = line_of Reviewer own.name (map (verdict_at own.items) (revisions_on count own.items))

-- an author's line: on each of their revisions, what the book decides
abbrev pub author_line : List Entry → Group Revision → ReportLine
author_line book own = line_of Author own.name (map (λ revision. verdict_at book revision.number) own.items)

-- a line for each reviewer of the book, and then one for each author of the revisions
abbrev pub report_lines : List Revision → List Entry → List ReportLine
report_lines revisions book = map (reviewer_line (length revisions)) (grouped reviewer_of book) ++ map (author_line book) (grouped author_of revisions)

-- ---- by kind

-- the revisions of this kind
abbrev pub of_kind : RevKind → List Revision → List Revision
of_kind kind revisions = filter (λ revision. is_same_kind revision.kind kind) revisions

-- an author's line of one kind: on each of their revisions of this kind, what the book decides
abbrev pub kind_line : List Entry → Group Revision → RevKind → ReportLine
kind_line book own kind = line_of (Kind kind) own.name (map (λ revision. verdict_at book revision.number) (of_kind kind own.items))

-- a line for each kind of their revisions, in the order of the table of kinds
abbrev pub kind_lines : List RevKind → List Entry → Group Revision → List ReportLine
kind_lines kinds book own = filter counts_any (map (kind_line book own) kinds)

-- an author's line, and then one for each kind of their revisions
abbrev pub author_lines : List Entry → Group Revision → List ReportLine
author_lines book own = author_line book own ∷ kind_lines KINDS book own

-- the report in which each author's line is followed by those of the kinds
abbrev pub report_lines_by_kind : List Revision → List Entry → List ReportLine
report_lines_by_kind revisions book =
    map (reviewer_line (length revisions)) (grouped reviewer_of book) ++ flat_map (author_lines book) (grouped author_of revisions)
