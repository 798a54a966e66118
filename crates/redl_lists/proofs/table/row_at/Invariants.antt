use Rattle.std.proofs.Common.{◌≡◌, drop}
use Rattle.std.specs.Prelude.{find}
use Rattle.redl_lists.specs.Parts.{part_elements}
use Rattle.redl_lists.specs.Tables.{is_at}
use Rattle.redl_lists.proofs.table.row_at.Given as goal

-- the first at the level is the first of those that are left
abbrev pub invariant-loop-part : goal.invariant-loop-part
invariant-loop-part g l = find (is_at l.level) (part_elements (drop l.part-index l.parts)) ≡ find (is_at l.level) (part_elements l.parts)
