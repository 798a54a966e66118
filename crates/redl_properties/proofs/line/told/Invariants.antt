use Rattle.std.proofs.Common.{◌≡◌, take}
use Rattle.std.specs.List.{flat_map}
use Rattle.redl_properties.specs.Lines.{told_of}
use Rattle.redl_properties.proofs.line.told.Given as goal

abbrev pub invariant-loop-change : goal.invariant-loop-change
invariant-loop-change l = l.told.items ≡ flat_map (told_of l.changes) (take l.change-index l.changes)
