use Rattle.std.proofs.Common.{◌≡◌, drop}
use Rattle.redl_tree.specs.Model.View.{nodes_of}
use Rattle.redl_tree.specs.Roles.Words.{name_of}
use Rattle.redl_tree.specs.Rules.Sound.{former_declares}
use Rattle.redl_rules.specs.Attributes.{declares}
use Rattle.redl_rules.proofs.rules.former_declares_names.Given as goal

abbrev pub invariant-loop-node : goal.invariant-loop-node
invariant-loop-node l = former_declares declares (name_of l.word) (nodes_of (drop l.node-index l.kids)) ≡ former_declares declares (name_of l.word) (nodes_of l.kids)
