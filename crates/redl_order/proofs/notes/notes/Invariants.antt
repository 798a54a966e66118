use Rattle.std.proofs.Common.{◌≡◌, ◌++◌, ℕ, List, filter}
use Rattle.std.specs.List.{flat_map}
use Rattle.redl_opc.specs.Stories.{stories_from}
use Rattle.redl_order.specs.Order.{has_id, notes, notes_of}
use Rattle.redl_order.specs.Inside.Places.{notes_at}
use Rattle.redl_order.proofs.notes.notes.Given as goal

-- the notes with an id so far, and then those of the parts that are left
abbrev pub invariant-loop-part : goal.invariant-loop-part
invariant-loop-part l = (id : List ℕ) →
    notes_at l.found id ++ filter (has_id id) (flat_map (λ root. notes_of l.note root.kids) (stories_from l.part l.pkg)) ≡ filter (has_id id) (notes l.note l.pkg)
