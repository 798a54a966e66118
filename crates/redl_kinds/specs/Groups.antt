-- Groups of kinds of revisions (our own rule). Each kind is in one group.
use Rattle.std.specs.Prelude.{Bool, true, false}
use Rattle.redl_kinds.specs.declared.rev_kind.RevKind.{RevKind}
use Rattle.redl_kinds.specs.declared.rev_kind.RevKind.TheVariants as kinds
use Rattle.redl_kinds.specs.declared.group.Group.{Group}
use Rattle.redl_kinds.specs.declared.group.Group.TheVariants.{Content, Marks, Rows, Cells, Props}

-- the kind is in the group; a paired move is content
abbrev pub is_in : Group → RevKind → Bool
is_in Content (kinds.Content trace) = true
is_in Content kinds.Move = true
is_in Marks (kinds.Mark trace) = true
is_in Rows (kinds.Row trace) = true
is_in Cells (kinds.Cell trace) = true
is_in Props (kinds.Change prop) = true
is_in _ _ = false
