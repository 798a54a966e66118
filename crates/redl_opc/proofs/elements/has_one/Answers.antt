use Rattle.std.proofs.Common.{◌∙◌, true, false, is_some, not, sym, ap}
use Rattle.redl_tree.specs.Model.Kids.{has_element}
use Rattle.redl_tree.specs.Model.Nodes.{no_nodes, in_front}
use Rattle.redl_tree.specs.Model.View.{item_of, nodes_of}
use Rattle.redl_opc.specs.Elements.{only_element}
use Rattle.redl_opc.proofs.UnnamedLaws.{only-first, one-first}
use Rattle.redl_opc.proofs.elements.has_one.Goals as goal

pub returns-then-is_one : goal.returns-then-is_one
returns-then-is_one c =
    let x = item_of c.in-Some.node.now in
    let rest = nodes_of c.in-Some.rest.now in
    ap not c.has_elements.ensures
    ∙ sym (ap is_some (only-first (nodes_of c.args.nodes.now) x rest c.in-Some.ensures.found c.in-Some.ensures.some)
    ∙ one-first (has_element rest) true (only_element (in_front x no_nodes)) (sym c.is_one.ensures ∙ c.if-is_one.true))

pub returns-else-is_one : goal.returns-else-is_one
returns-else-is_one c =
    let x = item_of c.in-Some.node.now in
    let rest = nodes_of c.in-Some.rest.now in
    c.if-is_one.false
    ∙ sym (ap is_some (only-first (nodes_of c.args.nodes.now) x rest c.in-Some.ensures.found c.in-Some.ensures.some)
    ∙ one-first (has_element rest) false (only_element (in_front x no_nodes)) (sym c.is_one.ensures ∙ c.if-is_one.false))
