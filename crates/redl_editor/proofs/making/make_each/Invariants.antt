use Rattle.std.proofs.Common.{◌≡◌, ◌≤◌, ◌+◌, ◌++◌, ℕ, List, map, drop}
use Rattle.redl_tree.specs.Leaves.States.{slots_of}
use Rattle.redl_editor.specs.Inside.Makes.{AreWithin, made_count, ways_of, sizes_of}
use Rattle.redl_editor.specs.Places.{HasWays}
use Rattle.redl_leaves.specs.Steps.{AreMade, way_of}
use Rattle.redl_leaves.specs.View.{states_of}
use Rattle.redl_editor.proofs.making.make_each.Given as goal

abbrev pub invariant-loop-leaf : goal.invariant-loop-leaf
invariant-loop-leaf g l = AreMade l.says l.all.items (states_of l.slots)
    × ((ways : List (List ℕ)) → HasWays l.places ways → AreWithin ways l.leaves
    → (map way_of l.all.items ++ ways_of ways (drop l.leaf-index l.leaves) ≡ ways_of ways l.leaves)
    × (l.steps + sizes_of ways (slots_of (states_of l.slots)) (drop l.leaf-index l.leaves) ≤ l.initial.steps + sizes_of ways (slots_of (states_of l.slots)) l.leaves))
    × (l.initial.steps + made_count l.all.items ≤ l.steps)
