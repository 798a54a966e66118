use Rattle.std.proofs.Common.{◌≡◌, ◌+◌, ◌*◌, drop, map}
use Rattle.redl_tree.specs.Model.Nodes.{from_items}
use Rattle.redl_visit.specs.Visits.{visited, Needs}
use Rattle.redl_visit.specs.Stops.{StopsIn}
use Rattle.redl_visit.proofs.visit.+visit.Given as goal

abbrev pub decreases-visit_elem : goal.decreases-visit_elem
decreases-visit_elem g l = 4 * g.E.Element.depth l.elem.now + 3

abbrev pub decreases-visit_inner : goal.decreases-visit_inner
decreases-visit_inner g l = 4 * g.E.Element.depth l.elem.now + 2

abbrev pub decreases-visit_kids : goal.decreases-visit_kids
decreases-visit_kids g l = 4 * g.E.Element.depth l.elem.now + 1

abbrev pub decreases-visit_node : goal.decreases-visit_node
decreases-visit_node g l = 4 * g.E.Element.node_depth l.node.now + 4

-- what was visited so far, and then the nodes that are left
abbrev pub invariant-visit_kids-loop-node : goal.invariant-visit_kids-loop-node
invariant-visit_kids-loop-node g l = record {
  needs : Needs g.H.Summary.inside g.V.Visitor.rule g.V.Visitor.needs l.inner l.below (from_items (map g.E.Element.item (drop l.node-index l.node-items))) (g.V.Visitor.state l.visitor);
  state : visited g.H.Summary.inside g.V.Visitor.rule l.inner l.below (from_items (map g.E.Element.item (drop l.node-index l.node-items))) (g.V.Visitor.state l.visitor)
      ≡ visited g.H.Summary.inside g.V.Visitor.rule l.inner l.below (g.E.Element.kids l.elem) (g.V.Visitor.state l.initial.visitor);
  stops : (t : g.V.Visitor.State) (x : g.row.V-Error.Denot)
      → StopsIn g.H.Summary.inside g.V.Visitor.rule g.V.Visitor.stops l.inner l.below (from_items (map g.E.Element.item (drop l.node-index l.node-items))) (g.V.Visitor.state l.visitor) t x
      → StopsIn g.H.Summary.inside g.V.Visitor.rule g.V.Visitor.stops l.inner l.below (g.E.Element.kids l.elem) (g.V.Visitor.state l.initial.visitor) t x;
}
