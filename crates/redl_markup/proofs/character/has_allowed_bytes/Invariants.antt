use Rattle.std.proofs.Common.{◌≡◌, length}
use Rattle.redl_markup.specs.Inside.Characters.{are_allowed}
use Rattle.redl_markup.proofs.character.has_allowed_bytes.Given as goal

abbrev pub invariant-loop-first : goal.invariant-loop-first
invariant-loop-first l = are_allowed l.rest ≡ are_allowed l.bytes

abbrev pub decreases-loop-first : goal.decreases-loop-first
decreases-loop-first l = length l.rest
