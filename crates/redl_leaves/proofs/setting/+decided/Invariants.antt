use Rattle.std.proofs.Common.{◌≡◌, drop}
use Rattle.redl_tree.specs.Leaves.Settings.{has_member, is_decided}
use Rattle.redl_tree.specs.Model.View.{nodes_of}
use Rattle.redl_leaves.proofs.setting.+decided.Given as goal

abbrev pub invariant-has_decided-loop-kid : goal.invariant-has_decided-loop-kid
invariant-has_decided-loop-kid l = has_member (is_decided l.says) (nodes_of (drop l.kid-index l.nodes)) ≡ has_member (is_decided l.says) (nodes_of (l.nodes))
