use Rattle.std.proofs.Common.{◌≡◌, length}
use Rattle.redl_tree.specs.Model.Folds.{nodes_in}
use Rattle.redl_tree.specs.Model.IdleTexts.{idle_nodes}
use Rattle.redl_tree.specs.declared.kinds.Space.TheVariants.{W}
use Rattle.redl_page_stories.specs.Values.{value_in}
use Rattle.redl_page_stories.proofs.values.idle_value_in.Given as goal

-- the answer is that of the nodes that are left
abbrev pub invariant-loop-first : goal.invariant-loop-first
invariant-loop-first l = value_in l.property (nodes_in W l.left) ≡ value_in l.property (idle_nodes l.plain)

abbrev pub decreases-loop-first : goal.decreases-loop-first
decreases-loop-first l = length l.left
