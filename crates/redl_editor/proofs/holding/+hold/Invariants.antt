use Rattle.std.proofs.Common.{◌≡◌, ◌+◌, ◌≤◌, drop, vec_len, vec_capacity}
use Rattle.redl_tree.specs.Leaves.Leaf.{leaf_count}
use Rattle.redl_tree.specs.Leaves.States.{slots_of}
use Rattle.redl_editor.proofs.HoldLaws.{NotesLeft}
use Rattle.redl_editor.specs.Holdings.{slots_hold, slots_members}
use Rattle.redl_leaves.specs.View.{states_of}
use Rattle.redl_editor.proofs.holding.+hold.Given as goal

abbrev pub invariant-note_slots-loop-slot : goal.invariant-note_slots-loop-slot
invariant-note_slots-loop-slot l =
    let left = slots_of (states_of (drop l.slot-index l.slots)) in
    let all = slots_of (states_of l.slots) in
    record {
      next : l.next + leaf_count left ≡ l.initial.next + leaf_count all;
      held : NotesLeft (slots_hold l.next left) (slots_hold l.initial.next all) l.initial.held.items l.held.items;
      len : vec_len l.held + slots_members left ≡ vec_len l.initial.held + slots_members all;
      capacity : vec_capacity l.initial.held ≤ vec_capacity l.held;
    }
