use Rattle.std.proofs.Common.{◌≡◌}
use Rattle.redl_properties.specs.Changes.{changes_upto}
use Rattle.redl_properties.proofs.changes.changes_between.Given as goal

abbrev pub invariant-loop-place : goal.invariant-loop-place
invariant-loop-place l = l.changes.items ≡ changes_upto l.leaves l.lists.present.now l.lists.former.now l.place
