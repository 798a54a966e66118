use Rattle.std.proofs.Common.{◌≡◌, length}
use Rattle.redl_stamp.specs.Attribute.{written_value}
use Rattle.redl_relations.proofs.values.written_value.Given as goal

-- the value is that among the attributes that are left
abbrev pub invariant-loop-attribute : goal.invariant-loop-attribute
invariant-loop-attribute l = written_value l.left l.local ≡ written_value l.tail l.local

abbrev pub decreases-loop-attribute : goal.decreases-loop-attribute
decreases-loop-attribute l = length l.left
