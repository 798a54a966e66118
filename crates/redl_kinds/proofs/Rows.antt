-- Groups by hand, with kinds that are in them.
use Rattle.std.proofs.Common.{◌≡◌, true, false, refl}
use Rattle.redl_tree.specs.declared.kinds.Trace.TheVariants.{Ins, Del}
use Rattle.redl_tree.specs.declared.kinds.Prop.TheVariants as props
use Rattle.redl_kinds.specs.declared.rev_kind.RevKind.TheVariants.{Move, Mark, Cell, Change}
use Rattle.redl_kinds.specs.declared.group.Group.TheVariants as groups
use Rattle.redl_kinds.specs.Groups.{is_in}

-- a paired move is content, and the change of a row's properties does not belong to rows
row_groups : (is_in groups.Content Move ≡ true) × (is_in groups.Marks (Mark Del) ≡ true) × (is_in groups.Cells (Cell Ins) ≡ true)
    × (is_in groups.Props (Change props.Row) ≡ true) × (is_in groups.Rows (Change props.Row) ≡ false)
row_groups = (refl, refl, refl, refl, refl)
