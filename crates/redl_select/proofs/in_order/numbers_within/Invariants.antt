use Rattle.std.proofs.Common.{◌≡◌, ◌++◌, drop}
use Rattle.redl_select.specs.Selections.{numbers_within}
use Rattle.redl_select.proofs.in_order.numbers_within.Given as goal

abbrev pub invariant-loop-bounds : goal.invariant-loop-bounds
invariant-loop-bounds l = l.numbers.items ++ numbers_within l.next (drop l.bounds-index l.all) ≡ numbers_within 0 l.all
