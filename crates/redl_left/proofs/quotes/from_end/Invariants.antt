use Rattle.std.proofs.Common.{◌≡◌, length}
use Rattle.redl_reading.specs.Lists.{after, is_none_of}
use Rattle.redl_left.proofs.quotes.from_end.Given as goal

abbrev pub invariant-loop-block : goal.invariant-loop-block
invariant-loop-block l = after (is_none_of 34 60 38) l.rest ≡ after (is_none_of 34 60 38) l.bytes

abbrev pub decreases-loop-block : goal.decreases-loop-block
decreases-loop-block l = length l.rest
