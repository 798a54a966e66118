use Rattle.std.proofs.Common.{◌≡◌, length}
use Rattle.std.specs.Str.{IsUtf8}
use Rattle.redl_stamp.specs.Attribute.{written_value}
use Rattle.redl_stamp.proofs.value.written_value.Given as goal

abbrev pub invariant-loop-attribute : goal.invariant-loop-attribute
invariant-loop-attribute l = (written_value l.left l.local ≡ written_value l.tail l.local) × (IsUtf8 l.tail → IsUtf8 l.left)

abbrev pub decreases-loop-attribute : goal.decreases-loop-attribute
decreases-loop-attribute l = length l.left
