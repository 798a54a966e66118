use Rattle.std.proofs.Common.{◌∙◌, ap, List, map, reverse}
use Rattle.std.specs.Global.{Vec}
use Rattle.redl_tree.specs.Model.Nodes.{no_nodes}
use Rattle.redl_tree.specs.declared.node.Node.{Node}
use Rattle.redl_xml.specs.Inside.Elements.{Frame, bare}
use Rattle.redl_xml.specs.Inside.Buildings.{frames}
use Rattle.redl_xml.proofs.Buildings.{state, frames-bare}
use Rattle.redl_xml.proofs.building.Building.drop_past_limits.Goals as goal

pub returns-then-not-are_within-clause-rest : goal.returns-then-not-are_within-clause-rest
returns-then-not-are_within-clause-rest c =
    let old = c.args.self.now in
    ap (λ (bs : List (Vec Node)). state (map bare (frames (reverse old.open.items) (reverse bs))) no_nodes old.scopes) c.clear.ensures.items
    ∙ ap (λ (fs : List Frame). state fs no_nodes old.scopes) (frames-bare (reverse old.open.items) (reverse old.before.items))
