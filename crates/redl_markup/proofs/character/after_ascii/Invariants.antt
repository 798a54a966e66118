use Rattle.std.proofs.Common.{length}
use Rattle.redl_grammar.specs.Characters.{IsText}
use Rattle.redl_markup.proofs.character.after_ascii.Given as goal

abbrev pub invariant-loop-block : goal.invariant-loop-block
invariant-loop-block l = record { ahead : IsText l.rest → IsText l.bytes; behind : IsText l.bytes → IsText l.rest }

abbrev pub decreases-loop-block : goal.decreases-loop-block
decreases-loop-block l = length l.rest
