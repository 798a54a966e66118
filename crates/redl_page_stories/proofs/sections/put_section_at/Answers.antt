-- The part has a story of this sort.
use Rattle.std.proofs.Common.{ap, sym, ◌∙◌}
use Rattle.redl_io.proofs.Puts.{puts_as}
use Rattle.redl_opc.specs.Elements.{element_of}
use Rattle.redl_shown.specs.Shown.{shown}
use Rattle.redl_tree.specs.Model.View.{kids_of, tag_of}
use Rattle.redl_html.proofs.PieceLaws.{puts_is}
use Rattle.redl_html.specs.Pieces.{pieces_text}
use Rattle.redl_page_stories.specs.Document.{name_at, section, section_in}
use Rattle.redl_page_stories.specs.Views.{facts_of}
use Rattle.redl_page_stories.proofs.NodeLaws.{section_in-sort}
use Rattle.redl_page_stories.proofs.sections.put_section_at.Goals as goal

pub returns-clause-puts : goal.returns-clause-puts
returns-clause-puts g c =
    let facts = facts_of c.args.facts.now in
    let root = c.in-Some.root.now in
    let name = name_at c.args.pkg.now c.args.part in
    puts_is
    (ap (λ o. pieces_text (section_in shown facts c.args.documents c.args.first name o)) c.in-Some.ensures.value
    ∙ section_in-sort shown facts c.args.documents c.args.first name (element_of root) c.is_sort.result c.is_sort.ensures c.if-not-is_sort.false
    ∙ ap (λ n. pieces_text (section shown facts c.args.first n (tag_of root).local (kids_of root))) (sym c.name_of.ensures))
    (puts_as c.in_ok-put_section.ensures)
