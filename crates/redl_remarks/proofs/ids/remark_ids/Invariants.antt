use Rattle.std.proofs.Common.{◌≡◌, map}
use Rattle.std.specs.List.{range_with_len}
use Rattle.redl_remarks.specs.Ids.{ids_on}
use Rattle.redl_remarks.proofs.ids.remark_ids.Given as goal

-- those of the first revisions
abbrev pub invariant-loop-place : goal.invariant-loop-place
invariant-loop-place l = l.ids.items ≡ map (ids_on l.pkg) (range_with_len 1 l.place)
