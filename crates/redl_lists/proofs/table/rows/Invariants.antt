use Rattle.std.proofs.Common.{◌≡◌, map, take}
use Rattle.redl_lists.specs.Parts.{part_elements}
use Rattle.redl_lists.proofs.table.rows.Given as goal

abbrev pub invariant-loop-part : goal.invariant-loop-part
invariant-loop-part g l = l.said.items ≡ map g.T.Row.row (part_elements (take l.part-index l.parts))
