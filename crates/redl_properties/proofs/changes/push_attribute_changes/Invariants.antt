use Rattle.std.proofs.Common.{◌≡◌, ◌++◌}
use Rattle.redl_properties.specs.Changes.{attributes_upto}
use Rattle.redl_properties.proofs.changes.push_attribute_changes.Given as goal

abbrev pub invariant-loop-place : goal.invariant-loop-place
invariant-loop-place l = l.changes.items ≡ l.initial.changes.items ++ attributes_upto l.path l.set l.sets.present.now l.sets.former.now l.place
