-- The lines are those of the definition, and their names are those of entries and revisions.
use Rattle.std.proofs.Common.{◌∙◌, ◌++◌, ℕ, List, map, ap}
use Rattle.std.proofs.lemmas.List.Elements.{All-same}
use Rattle.redl_index.specs.declared.revision.Revision.{Revision}
use Rattle.redl_report.specs.declared.line.ReportLine.{ReportLine}
use Rattle.redl_report.specs.Counts.{IsLine}
use Rattle.redl_report.specs.Groups.{grouped}
use Rattle.redl_report.specs.Reports.{author_line, author_of, report_lines, reviewer_line, reviewer_of}
use Rattle.redl_report.proofs.NameLaws.{lines-named}
use Rattle.redl_report.proofs.line_list.lines.Goals as goal

pub returns-clause-lines : goal.returns-clause-lines
returns-clause-lines c =
    c.in_ok-add_authors.ensures
    ∙ ap (λ (revisions : List Revision). c.add_reviewers.new.lines.items ++ map (author_line c.args.book.now) (grouped author_of revisions)) c.revisions.ensures.value
    ∙ ap (λ (lines : List ReportLine). lines ++ map (author_line c.args.book.now) (grouped author_of c.args.index.now))
    (c.in_ok-add_reviewers.ensures.lines ∙ ap (λ (lines : List ReportLine). lines ++ map (reviewer_line c.count.result) (grouped reviewer_of c.args.book.now)) c.new-lines.ensures.items
    ∙ ap (λ (count : ℕ). map (reviewer_line count) (grouped reviewer_of c.args.book.now)) c.count.ensures)

pub returns-clause-names : goal.returns-clause-names
returns-clause-names c =
    All-same IsLine c.add_authors.new.lines.items (report_lines c.args.index.now c.args.book.now) (returns-clause-lines c)
    (lines-named c.args.index.now c.args.book.now c.revisions.ensures.told c.in_ok-add_reviewers.ensures.allowed)
