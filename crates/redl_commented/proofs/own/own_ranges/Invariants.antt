use Rattle.std.proofs.Common.{◌≡◌, ◌++◌, length, drop}
use Rattle.redl_commented.specs.Ranges.{own_ranges, own_ranges_from}
use Rattle.redl_commented.proofs.own.own_ranges.Given as goal

-- the ranges so far, and then those of the ids that are left
abbrev pub invariant-loop-id : goal.invariant-loop-id
invariant-loop-id l = record {
  count : length l.own.items ≡ l.id-index;
  all : l.own.items ++ own_ranges_from l.places l.ids l.id-index (drop l.id-index l.ids) ≡ own_ranges l.places l.ids;
}
