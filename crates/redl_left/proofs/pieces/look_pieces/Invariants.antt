use Rattle.std.proofs.Common.{length}
use Rattle.redl_left.specs.Known.{AreKnown}
use Rattle.redl_left.specs.Pieces.{Ahead, HasPieces}
use Rattle.redl_left.specs.Search.{table_of}
use Rattle.redl_left.specs.Seen.{tables_of}
use Rattle.redl_left.proofs.pieces.look_pieces.Given as goal

-- what was noted so far, and then the pieces that are left
abbrev pub invariant-loop-left : goal.invariant-loop-left
invariant-loop-left l = record {
  known : AreKnown (table_of l.below.search.now) l.known;
  ahead : (has : HasPieces l.text) → Ahead (table_of l.below.search.now) l.below.part.now (tables_of l.initial.seen) (tables_of l.seen) has.pieces l.left;
}

abbrev pub decreases-loop-left : goal.decreases-loop-left
decreases-loop-left l = length l.left
