use Rattle.std.proofs.Common.{◌≡◌, length}
use Rattle.redl_rules.specs.Attributes.{declares}
use Rattle.redl_rules.proofs.attributes.has_declaration.Given as goal

abbrev pub invariant-loop-attribute : goal.invariant-loop-attribute
invariant-loop-attribute l = declares l.left ≡ declares l.tail

abbrev pub decreases-loop-attribute : goal.decreases-loop-attribute
decreases-loop-attribute l = length l.left
