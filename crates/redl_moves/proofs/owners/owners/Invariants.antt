use Rattle.std.proofs.Common.{◌≡◌, ℕ, None, nat_eq, drop, map}
use Rattle.indexmap.specs.IndexMap.{get}
use Rattle.redl_moves.specs.Marks.{markings, move_of}
use Rattle.redl_moves.specs.Inside.Owners.{owner_over}
use Rattle.redl_moves.proofs.owners.owners.Given as goal

-- what is noted of the moves so far, and what the moves that are left add
abbrev pub invariant-loop-paired : goal.invariant-loop-paired
invariant-loop-paired l =
    (at : ℕ) → owner_over (markings l.marks) at (get nat_eq l.owners at) (map move_of (drop l.paired-index l.moves))
    ≡ owner_over (markings l.marks) at None (map move_of l.moves)
