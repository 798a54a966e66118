use Rattle.std.proofs.Common.{◌≡◌, length}
use Rattle.redl_grammar.specs.References.{has_references}
use Rattle.redl_markup.proofs.reference.are_references.Given as goal

abbrev pub invariant-loop-next : goal.invariant-loop-next
invariant-loop-next l = has_references l.rest ≡ has_references l.bytes

abbrev pub decreases-loop-next : goal.decreases-loop-next
decreases-loop-next l = length l.rest
