use Rattle.std.proofs.Common.{map}
use Rattle.redl_tree.specs.Model.View.{item_of}
use Rattle.redl_opc.proofs.PartLaws.{gives_none}
use Rattle.redl_opc.proofs.UnnamedLaws.{items_of-parts}
use Rattle.redl_opc.proofs.elements.element_at.Goals as goal

pub returns-in_err-node_at : goal.returns-in_err-node_at
returns-in_err-node_at c =
    gives_none _ _ _ c.from_residual.ensures (rw (items_of-parts (map item_of c.args.nodes.now) c.requires, c.in_err-node_at.ensures))

pub returns : goal.returns
returns c = rw (items_of-parts (map item_of c.args.nodes.now) c.requires, c.in_ok-node_at.ensures) c.as_element.ensures
