use Rattle.std.proofs.Common.{◌≡◌, length}
use Rattle.redl_markup.specs.Attributes.{attributes_of}
use Rattle.redl_bare.specs.Marks.{stamp_in}
use Rattle.redl_bare.specs.Inside.Stamps.{stamp_with}
use Rattle.redl_bare.proofs.stamps.stamp_in.Given as goal

abbrev pub invariant-loop-attribute : goal.invariant-loop-attribute
invariant-loop-attribute l = stamp_with l.values (attributes_of l.left) ≡ stamp_in l.tail

abbrev pub decreases-loop-attribute : goal.decreases-loop-attribute
decreases-loop-attribute l = length l.left
