use Rattle.std.proofs.Common.{◌∙◌, sym, subst}
use Rattle.redl_reading.specs.Steps.{Gives}
use Rattle.redl_tree.specs.Model.View.{kids_of}
use Rattle.redl_numbering.specs.Inside.Founds.{found_as}
use Rattle.redl_clauses.proofs.ParagraphLaws.{counted-says, found-says}
use Rattle.redl_clauses.proofs.paragraph.count_paragraph.Goals as goal

pub returns-clause-counts : goal.returns-clause-counts
returns-clause-counts c =
    c.in_ok-found.ensures.counts
    ∙ counted-says c.args.lists.now.tables.now (kids_of c.args.paragraph.now) c.args.counting.now c.args.own.now c.requires.own
    (sym c.in_ok-only_ends_section.ensures ∙ c.if-branch.false)

pub returns-clause-found : goal.returns-clause-found
returns-clause-found c =
    subst (Gives found_as c.in_ok-found.found)
    (found-says c.args.lists.now.tables.now (kids_of c.args.paragraph.now) c.args.own.now c.requires.own (sym c.in_ok-only_ends_section.ensures ∙ c.if-branch.false))
    c.in_ok-found.ensures.found
