use Rattle.std.proofs.Common.{◌≡◌, ◌++◌, ℕ, List, drop, filter}
use Rattle.redl_tree.specs.Model.View.{nodes_of}
use Rattle.redl_order.specs.Order.{has_id, notes_of}
use Rattle.redl_order.specs.Inside.Places.{notes_at}
use Rattle.redl_order.proofs.notes.add_notes.Given as goal

-- the notes with an id so far, and then those among the nodes that are left
abbrev pub invariant-loop-node : goal.invariant-loop-node
invariant-loop-node l = (id : List ℕ) →
    notes_at l.found id ++ filter (has_id id) (notes_of l.note (nodes_of (drop l.node-index l.kids)))
    ≡ notes_at l.initial.found id ++ filter (has_id id) (notes_of l.note (nodes_of l.kids))
