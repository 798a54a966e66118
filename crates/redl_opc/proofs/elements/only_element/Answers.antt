use Rattle.std.proofs.Common.{◌∙◌, sym, Bor}
use Rattle.redl_tree.specs.Model.View.{item_of, nodes_of}
use Rattle.redl_tree.specs.declared.node.Elem.{Elem}
use Rattle.redl_opc.specs.Elements.{element_of}
use Rattle.redl_opc.proofs.UnnamedLaws.{several, only-one, told_one, told_none}
use Rattle.redl_opc.proofs.elements.only_element.Goals as goal

pub returns-then-has_elements-clause-none : goal.returns-then-has_elements-clause-none
returns-then-has_elements-clause-none c h =
    let found = c.in_ok-node.ensures in
    several (nodes_of c.args.nodes.now) (item_of c.in_ok-node.node.now) (nodes_of c.in_ok-node.rest.now) found.found found.some (sym c.has_elements.ensures ∙ c.if-has_elements.true)

pub returns-clause-one : goal.returns-clause-one
returns-clause-one c =
    let x = item_of c.in_ok-node.node.now in
    let found = c.in_ok-node.ensures in
    told_one (λ (elem : Bor Elem). element_of elem.now) c.as_element.result x _ c.as_element.ensures
    (only-one (nodes_of c.args.nodes.now) x (nodes_of c.in_ok-node.rest.now) found.found found.some (sym c.has_elements.ensures ∙ c.if-has_elements.false))

pub returns-clause-none : goal.returns-clause-none
returns-clause-none c =
    let x = item_of c.in_ok-node.node.now in
    let found = c.in_ok-node.ensures in
    told_none (λ (elem : Bor Elem). element_of elem.now) c.as_element.result x _ c.as_element.ensures
    (only-one (nodes_of c.args.nodes.now) x (nodes_of c.in_ok-node.rest.now) found.found found.some (sym c.has_elements.ensures ∙ c.if-has_elements.false)) found.some
