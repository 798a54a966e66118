use Rattle.std.proofs.Common.{◌≡◌, length}
use Rattle.redl_reading.specs.Lists.{after}
use Rattle.redl_grammar.specs.Characters.{is_plain_byte}
use Rattle.redl_markup.proofs.character.after_plain.Given as goal

abbrev pub invariant-loop-block : goal.invariant-loop-block
invariant-loop-block l = after is_plain_byte l.rest ≡ after is_plain_byte l.bytes

abbrev pub decreases-loop-block : goal.decreases-loop-block
decreases-loop-block l = length l.rest
