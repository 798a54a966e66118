-- The lines are those of the definition, so those of kinds add up, and their names are those of entries and revisions.
use Rattle.std.proofs.Common.{◌∙◌, ◌++◌, ℕ, List, All, map, sym, ap, subst}
use Rattle.std.proofs.lemmas.List.Elements.{All-same}
use Rattle.std.specs.List.{flat_map}
use Rattle.redl_index.specs.declared.revision.Revision.{Revision}
use Rattle.redl_report.specs.declared.line.ReportLine.{ReportLine}
use Rattle.redl_report.specs.Counts.{IsLine}
use Rattle.redl_report.specs.Groups.{grouped}
use Rattle.redl_report.specs.Reports.{author_lines, author_of, report_lines_by_kind, reviewer_line, reviewer_of}
use Rattle.redl_report.specs.Sums.{KindsAddUp}
use Rattle.redl_report.proofs.KindSums.{kinds-add_up}
use Rattle.redl_report.proofs.NameLaws.{lines-named-by_kind}
use Rattle.redl_report.proofs.line_list.lines_by_kind.Goals as goal

pub returns-clause-lines : goal.returns-clause-lines
returns-clause-lines c =
    c.in_ok-add_authors_by_kind.ensures
    ∙ ap (λ (revisions : List Revision). c.add_reviewers.new.lines.items ++ flat_map (author_lines c.args.book.now) (grouped author_of revisions)) c.revisions.ensures.value
    ∙ ap (λ (lines : List ReportLine). lines ++ flat_map (author_lines c.args.book.now) (grouped author_of c.args.index.now))
    (c.in_ok-add_reviewers.ensures.lines ∙ ap (λ (lines : List ReportLine). lines ++ map (reviewer_line c.count.result) (grouped reviewer_of c.args.book.now)) c.new-lines.ensures.items
    ∙ ap (λ (count : ℕ). map (reviewer_line count) (grouped reviewer_of c.args.book.now)) c.count.ensures)

pub returns-clause-add_up : goal.returns-clause-add_up
returns-clause-add_up c =
    subst (λ lines. All (KindsAddUp lines) lines) (sym (returns-clause-lines c)) (kinds-add_up c.args.index.now c.args.book.now c.revisions.ensures.told)

pub returns-clause-names : goal.returns-clause-names
returns-clause-names c =
    All-same IsLine c.add_authors_by_kind.new.lines.items (report_lines_by_kind c.args.index.now c.args.book.now) (returns-clause-lines c)
    (lines-named-by_kind c.args.index.now c.args.book.now c.revisions.ensures.told c.in_ok-add_reviewers.ensures.allowed)
