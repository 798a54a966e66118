use Rattle.std.proofs.Common.{◌≡◌, ◌≤◌, length, map, min}
use Rattle.std.specs.Char.{digit_value}
use Rattle.std.specs.Int.Digits.{number_from_digits_after}
use Rattle.redl_markup.specs.declared.reference.TheConstants.{BEYOND}
use Rattle.redl_grammar.specs.References.{number_of}
use Rattle.redl_markup.proofs.reference.number.Given as goal

abbrev pub invariant-loop-first : goal.invariant-loop-first
invariant-loop-first l = (l.number ≤ BEYOND) × (min (number_from_digits_after l.base l.number (map digit_value l.rest)) BEYOND ≡ min (number_of l.base l.digits) BEYOND)

abbrev pub decreases-loop-first : goal.decreases-loop-first
decreases-loop-first l = length l.rest
