use Rattle.std.proofs.Common.{◌≡◌, ◌++◌, length}
use Rattle.redl_markup.specs.Decoding.{decoded_from, decoded_value}
use Rattle.redl_markup.proofs.decode.decode_bytes.Given as goal

abbrev pub invariant-loop-first : goal.invariant-loop-first
invariant-loop-first l = l.text.items ++ decoded_from l.in_reference l.rest ≡ decoded_value l.value

abbrev pub decreases-loop-first : goal.decreases-loop-first
decreases-loop-first l = length l.rest
