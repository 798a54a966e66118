use Rattle.std.proofs.Common.{◌≡◌, ◌∷◌, List}
use Rattle.std.specs.Vec.Iter.{into_iter_items}
use Rattle.redl_tree.specs.Leaves.States.{AreTallied}
use Rattle.redl_tree.specs.Model.Nodes.{Tag}
use Rattle.redl_leaves.specs.Spots.{spot_of}
use Rattle.redl_leaves.specs.Steps.{AreMade}
use Rattle.redl_leaves.specs.View.{states_of}
use Rattle.redl_leaves.proofs.StepLaws.{Steps}
use Rattle.redl_leaves.proofs.stepping.step_each.Given as goal

abbrev pub invariant-loop-one : goal.invariant-loop-one
invariant-loop-one l = (parent : Tag) → (above : List Tag) → l.fn.spot ≡ spot_of (parent ∷ above)
    → AreTallied (parent ∷ above) (states_of l.initial.slots) → AreMade l.says l.fn.all.items (states_of l.initial.slots)
    → Steps l.says (parent ∷ above) (states_of l.initial.slots) l.fn.all.items (states_of l.slots) (into_iter_items l.one-iterator)
