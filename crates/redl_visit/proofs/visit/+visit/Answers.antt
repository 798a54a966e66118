use Rattle.std.proofs.Common.{ap, sym, ◌∙◌, subst, arith, ◌+◌, ◌<◌, length, drop, map}
use denote.Param.Weighed.{at_most}
use Rattle.redl_tree.specs.Model.Nodes.{from_items}
use Rattle.redl_visit.specs.Stops.{StopsIn}
use Rattle.redl_visit.specs.Visits.{visited, Needs}
use Rattle.redl_visit.proofs.VisitLaws.{visited-in_front, needs-in_front, stops-behind, items_here}
use Rattle.redl_visit.proofs.visit.+visit.Goals as goal

pub visit_kids-visit_node-requires : goal.visit_kids-visit_node-requires
visit_kids-visit_node-requires g t c κs within =
    let items = c.nodes-node-items.result.now in
    let i = c.loop-node.node-index in
    let x = c.node-item.result in
    let inside : i < length items = omega (arith, c.loop-node-test.true) in
    let here = items_here g.E.Element.item items i x inside c.node-item.is in
    let below = at_most g.E.Element.node_depth items i x inside in
    let needs = needs-in_front g.H.Summary.inside g.V.Visitor.rule c.args.inner.now c.args.below.now g.V.Visitor.needs (g.E.Element.item x)
    (from_items (map g.E.Element.item (drop (i + 1) items))) (g.V.Visitor.state c.loop-node.visitor)
    (subst (λ ns. Needs g.H.Summary.inside g.V.Visitor.rule g.V.Visitor.needs c.args.inner.now c.args.below.now ns (g.V.Visitor.state c.loop-node.visitor)) here c.loop-node.invariant.needs) in
    (omega (arith, c.decreases, ap g.E.Element.node_depth c.node-item.is, below, c.nodes-node-items.ensures.below), (within.0, (within.1.0, (within.1.1.0, (within.1.1.1.0, (within.1.1.1.1.0, (within.1.1.1.1.1.0, (within.1.1.1.1.1.1, needs.0))))))))

pub visit_kids-loop-node-preserved : goal.visit_kids-loop-node-preserved
visit_kids-loop-node-preserved g t c =
    let inside = g.H.Summary.inside in
    let rule = g.V.Visitor.rule in
    let h = c.args.inner.now in
    let o = c.args.below.now in
    let items = c.nodes-node-items.result.now in
    let i = c.loop-node.node-index in
    let x = c.node-item.result in
    let s = g.V.Visitor.state c.loop-node.visitor in
    let more = from_items (map g.E.Element.item (drop (i + 1) items)) in
    let here = items_here g.E.Element.item items i x c.loop-node-test.true c.node-item.is in
    let state_is = c.in_ok-visit_node.ensures.state in
    let later = (needs-in_front inside rule h o g.V.Visitor.needs (g.E.Element.item x) more s
    (subst (λ ns. Needs inside rule g.V.Visitor.needs h o ns s) here c.loop-node.invariant.needs)).1 in
    record {
      needs = subst (λ z. Needs inside rule g.V.Visitor.needs h o more z) (sym state_is) later;
      state =
          ap (visited inside rule h o more) state_is ∙ sym (visited-in_front inside rule h o (g.E.Element.item x) more s)
          ∙ ap (λ ns. visited inside rule h o ns s) (sym here) ∙ c.loop-node.invariant.state;
      stops = λ after error stopped.
          c.loop-node.invariant.stops after error
          (subst (λ ns. StopsIn inside rule g.V.Visitor.stops h o ns s after error) (sym here)
          (stops-behind inside rule h o g.V.Visitor.stops (g.E.Element.item x) more s after error
          (subst (λ z. StopsIn inside rule g.V.Visitor.stops h o more z after error) state_is stopped)));
    }
