use Rattle.std.proofs.Common.{◌≡◌, ◌++◌, drop}
use Rattle.redl_tree.specs.Model.View.{nodes_of}
use Rattle.redl_spans.specs.Members.{property_members}
use Rattle.redl_spans.proofs.members.property_members.Given as goal

-- what was found so far, and then what is in the properties that are left
abbrev pub invariant-loop-node : goal.invariant-loop-node
invariant-loop-node l = l.found.items ++ property_members (nodes_of (drop l.node-index l.kids)) ≡ property_members (nodes_of l.kids)
