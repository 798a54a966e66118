use Rattle.std.proofs.Common.{◌≡◌, take, drop}
use Rattle.redl_tree.specs.Model.Nodes.{◌⊕◌}
use Rattle.redl_tree.specs.Roles.Arounds.{around_inside}
use Rattle.redl_tree.specs.Model.View.{nodes_of}
use Rattle.redl_visit.specs.Visits.{visited, Needs}
use Rattle.redl_visit.specs.Labelling.{visit_of, needs_of, relabelled}
use Rattle.redl_visit.proofs.labels.+labels.Given as goal

-- what was labelled stands in front, and the rest is as it was
abbrev pub invariant-label_nodes-loop-i : goal.invariant-label_nodes-loop-i
invariant-label_nodes-loop-i g l = record {
  unvisited : goal.unvisited-label_nodes-loop-i g l;
  needs : Needs around_inside (visit_of g.L.Labeller.rule) (needs_of g.L.Labeller.needs) l.here l.own (nodes_of (drop l.i l.nodes)) (g.L.Labeller.state l.labeller);
  nodes : nodes_of (take l.i l.nodes) ⊕ relabelled around_inside g.L.Labeller.rule l.here l.own (nodes_of (drop l.i l.nodes)) (g.L.Labeller.state l.labeller)
      ≡ relabelled around_inside g.L.Labeller.rule l.here l.own (nodes_of l.initial.nodes) (g.L.Labeller.state l.initial.labeller);
  state : visited around_inside (visit_of g.L.Labeller.rule) l.here l.own (nodes_of (drop l.i l.nodes)) (g.L.Labeller.state l.labeller)
      ≡ visited around_inside (visit_of g.L.Labeller.rule) l.here l.own (nodes_of l.initial.nodes) (g.L.Labeller.state l.initial.labeller);
}
