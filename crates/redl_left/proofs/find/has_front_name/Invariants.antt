use Rattle.std.proofs.Common.{◌≡◌, length}
use Rattle.redl_left.specs.Finds.{has_front_name}
use Rattle.redl_left.proofs.find.has_front_name.Given as goal

abbrev pub invariant-loop-attribute : goal.invariant-loop-attribute
invariant-loop-attribute l = has_front_name l.left l.front ≡ has_front_name l.tail l.front

abbrev pub decreases-loop-attribute : goal.decreases-loop-attribute
decreases-loop-attribute l = length l.left
