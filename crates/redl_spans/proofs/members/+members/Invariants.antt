use Rattle.std.proofs.Common.{◌≡◌, ◌++◌, drop}
use Rattle.redl_tree.specs.Model.View.{nodes_of}
use Rattle.redl_spans.specs.Members.{members}
use Rattle.redl_spans.proofs.members.+members.Given as goal

-- what was found so far, and then what is among the nodes that are left
abbrev pub invariant-add_members-loop-node : goal.invariant-add_members-loop-node
invariant-add_members-loop-node l =
    l.found.items ++ members (nodes_of (drop l.node-index l.nodes)) ≡ l.initial.found.items ++ members (nodes_of l.nodes)
