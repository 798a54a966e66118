use Rattle.std.proofs.Common.{◌≡◌, ◌<◌, ◌≤◌, ◌^◌, ◌∷◌, List}
use Rattle.std.specs.Vec.Iter.{into_iter_items}
use Rattle.redl_tree.specs.Leaves.Containers.{opens}
use Rattle.redl_tree.specs.Leaves.Slots.{siblings, slots_in}
use Rattle.redl_tree.specs.Leaves.States.{fresh_states}
use Rattle.redl_tree.specs.Model.Count.{count}
use Rattle.redl_tree.specs.Model.Nodes.{Tag}
use Rattle.redl_tree.specs.Model.View.{nodes_of}
use Rattle.redl_tree.specs.Roles.Lists.{is_block_list}
use Rattle.redl_leaves.specs.Inside.Splits.{whole}
use Rattle.redl_leaves.specs.Spots.{spot_of}
use Rattle.redl_leaves.proofs.split.+split.Given as goal

abbrev pub invariant-split_kids-loop-node : goal.invariant-split_kids-loop-node
invariant-split_kids-loop-node l =
    let left = nodes_of (into_iter_items l.node-iterator) in
    record {
      few : count left ≤ count (nodes_of l.fn.kids.items);
      becomes : (parent : Tag) → (above : List Tag) → l.fn.spot ≡ spot_of (parent ∷ above) → count (nodes_of l.fn.kids.items) < 2 ^ 32
          → whole (is_block_list l.fn.spot.site.place) (parent ∷ above) l.split (siblings opens (parent ∷ above) left)
          ≡ fresh_states (parent ∷ above) (slots_in opens (parent ∷ above) (nodes_of l.fn.kids.items));
    }
