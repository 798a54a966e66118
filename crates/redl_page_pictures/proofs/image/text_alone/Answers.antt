use Rattle.std.proofs.Common.{◌≡◌, ◌∙◌, ap, sym, false}
use Rattle.redl_tree.specs.Model.Kids.{has_element}
use Rattle.redl_tree.specs.Model.Nodes.{in_front}
use Rattle.redl_tree.specs.Model.View.{nodes_of, item_of}
use Rattle.redl_page_pictures.specs.Pictures.{first_text}
use Rattle.redl_page_pictures.proofs.ItemLaws.{first-alone, first-in_front}
use Rattle.redl_page_pictures.proofs.image.text_alone.Goals as goal

pub returns-in-Some : goal.returns-in-Some
returns-in-Some c =
    let kids = nodes_of c.args.kids.now in
    let x = item_of c.in-Some.node.now in
    let later = nodes_of c.in-Some._later.now in
    let none : has_element kids ≡ false = sym c.has_elements.ensures ∙ c.if-has_elements.false in
    let front : kids ≡ in_front x later = ap nodes_of c.in-Some.ensures.cases.0 in
    c.text_of.ensures ∙ sym (first-alone kids none ∙ ap first_text front ∙ first-in_front x later (sym (ap has_element front) ∙ none))
