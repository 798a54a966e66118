use Rattle.std.proofs.Common.{◌≡◌, ◌++◌, drop, map, filter_map}
use Rattle.redl_moves.specs.Marks.{markings, move_of}
use Rattle.redl_tree.specs.Revisions.Moves.{from_start}
use Rattle.redl_moves.specs.Places.{move_begun, moves_by_place}
use Rattle.redl_moves.proofs.pairing.paired.Given as goal

-- the moves so far and those of the markers that are left are all
abbrev pub invariant-loop-mark : goal.invariant-loop-mark
invariant-loop-mark l =
    map move_of l.moves.items ++ filter_map (move_begun from_start (markings l.marks)) (markings (drop l.mark-index l.marks)) ≡ moves_by_place (markings l.marks)
