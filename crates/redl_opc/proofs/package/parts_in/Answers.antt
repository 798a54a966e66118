use Rattle.std.proofs.Common.{◌∙◌, sym, ap, subst}
use Rattle.std.specs.List.{list_all}
use Rattle.redl_tree.specs.Model.View.{nodes_of}
use Rattle.redl_opc.specs.Elements.{element_of, elements_of}
use Rattle.redl_opc.specs.Shape.{is_part}
use Rattle.redl_tree.specs.Model.Tree.{HasUtf8Tails}
use Rattle.redl_opc.proofs.PartLaws.{tails-root}
use Rattle.redl_opc.proofs.package.parts_in.Goals as goal

pub list_parts-requires-clause-tails : goal.list_parts-requires-clause-tails
list_parts-requires-clause-tails c =
    subst HasUtf8Tails (sym c.kids-3.ensures.kids)
    (tails-root (nodes_of c.args.nodes.now) (element_of c.in-Some.root.now) c.in-Some.ensures c.requires.tails)

pub list_parts-requires-clause-all : goal.list_parts-requires-clause-all
list_parts-requires-clause-all c =
    ap (λ ns. list_all is_part (elements_of ns)) (c.kids-3.ensures.kids ∙ sym c.kids.ensures.kids) ∙ sym c.if-not-are_parts.ensures
