use Rattle.std.proofs.Common.{sym, ap, ◌∙◌, ◌++◌, codes, refl}
use Rattle.redl_io.proofs.Puts.{puts_then, puts_fails}
use Rattle.redl_shown.specs.Shown.{shown}
use Rattle.redl_tree.specs.Model.View.{kids_of, tag_of}
use Rattle.redl_page_stories.specs.Document.{nodes_pieces}
use Rattle.redl_html.specs.Pieces.{pieces_text}
use Rattle.redl_page_stories.specs.Views.{facts_of}
use Rattle.redl_page_stories.proofs.NodeLaws.{section-text}
use Rattle.redl_page_stories.proofs.sections.put_section.Goals as goal

pub returns-in_err-put_start : goal.returns-in_err-put_start
returns-in_err-put_start g c =
    puts_fails _ (section-text shown (facts_of c.args.facts.now) c.args.first c.args.name.now (tag_of c.args.root.now).local (kids_of c.args.root.now)) c.from_residual.ensures.1
    (rw c.local.ensures at c.in_err-put_start.ensures)

pub returns-in_err-put_heading : goal.returns-in_err-put_heading
returns-in_err-put_heading g c =
    puts_then (section-text shown (facts_of c.args.facts.now) c.args.first c.args.name.now (tag_of c.args.root.now).local (kids_of c.args.root.now))
    (rw c.local.ensures at c.in_ok-put_start.ensures)
    (puts_fails _ refl c.from_residual-in_err-put_heading.ensures.1 (rw c.local-2.ensures at c.in_err-put_heading.ensures))

pub returns-in_err-put_nodes : goal.returns-in_err-put_nodes
returns-in_err-put_nodes g c =
    puts_then (section-text shown (facts_of c.args.facts.now) c.args.first c.args.name.now (tag_of c.args.root.now).local (kids_of c.args.root.now))
    (rw c.local.ensures at c.in_ok-put_start.ensures)
    (puts_then refl (rw c.local-2.ensures at c.in_ok-put_heading.ensures)
    (puts_fails (codes "</section>\n")
    (ap (λ p. pieces_text (nodes_pieces shown (facts_of c.args.facts.now) p (kids_of c.args.root.now)) ++ codes "</section>\n") (sym c.in_story.ensures)
    ∙ ap (λ n. pieces_text (nodes_pieces shown (facts_of c.args.facts.now) c.in_story.result n) ++ codes "</section>\n") (sym c.kids.ensures.kids))
    c.from_residual-in_err-put_nodes.ensures.1 c.in_err-put_nodes.ensures))

pub returns : goal.returns
returns g c =
    puts_then (section-text shown (facts_of c.args.facts.now) c.args.first c.args.name.now (tag_of c.args.root.now).local (kids_of c.args.root.now))
    (rw c.local.ensures at c.in_ok-put_start.ensures)
    (puts_then refl (rw c.local-2.ensures at c.in_ok-put_heading.ensures)
    (puts_then
    (ap (λ p. pieces_text (nodes_pieces shown (facts_of c.args.facts.now) p (kids_of c.args.root.now)) ++ codes "</section>\n") (sym c.in_story.ensures)
    ∙ ap (λ n. pieces_text (nodes_pieces shown (facts_of c.args.facts.now) c.in_story.result n) ++ codes "</section>\n") (sym c.kids.ensures.kids))
    c.in_ok-put_nodes.ensures c.put_piece.ensures))
