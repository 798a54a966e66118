use Rattle.std.proofs.Common.{◌≡◌, ◌++◌, drop}
use Rattle.redl_tree.specs.Model.View.{nodes_of}
use Rattle.redl_edits.specs.Passed.{passed}
use Rattle.redl_edits.proofs.passed.+passed.Given as goal

-- what was passed so far, and then what is passed in the nodes that are left
abbrev pub invariant-pass_nodes-loop-node : goal.invariant-pass_nodes-loop-node
invariant-pass_nodes-loop-node l =
    l.out ++ passed l.in_text (nodes_of (drop l.node-index l.nodes)) ≡ l.initial.out ++ passed l.in_text (nodes_of l.nodes)
