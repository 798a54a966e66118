use Rattle.std.proofs.Common.{◌≡◌, take}
use Rattle.redl_remarks.specs.Ids.{spaced_ids}
use Rattle.redl_remarks.proofs.ids.ids_line.Given as goal

-- the ids so far
abbrev pub invariant-loop-place : goal.invariant-loop-place
invariant-loop-place l = l.spaced.items ≡ spaced_ids l.comments (take l.place-index l.places)
