use Rattle.std.proofs.Common.{◌≡◌, length}
use Rattle.redl_reading.specs.Lists.{after, is_other}
use Rattle.redl_left.proofs.quotes.from_quote.Given as goal

abbrev pub invariant-loop-block : goal.invariant-loop-block
invariant-loop-block l = after (is_other 34) l.rest ≡ after (is_other 34) l.bytes

abbrev pub decreases-loop-block : goal.decreases-loop-block
decreases-loop-block l = length l.rest
