use Rattle.std.proofs.Common.{◌≡◌, drop}
use Rattle.redl_tree.specs.Model.View.{nodes_of}
use Rattle.redl_relations.specs.Relations.{first_with}
use Rattle.redl_relations.specs.Inside.Sought.{is_sought}
use Rattle.redl_relations.proofs.sought.first.Given as goal

-- none of the nodes so far is it
abbrev pub invariant-loop-node : goal.invariant-loop-node
invariant-loop-node l = first_with (is_sought l.sought) (nodes_of (drop l.node-index l.nodes)) ≡ first_with (is_sought l.sought) (nodes_of l.nodes)
