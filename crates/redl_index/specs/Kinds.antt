-- Which kind of revision an element is in (ECMA-376 Part 1, 17.13.5).
use Rattle.std.specs.Prelude.{Bool, true, false, Option, Some, None}
use Rattle.redl_tree.specs.declared.kinds.Kind.{Kind}
use Rattle.redl_tree.specs.declared.kinds.Kind.TheVariants as kinds
use Rattle.redl_kinds.specs.declared.rev_kind.RevKind.{RevKind}
use Rattle.redl_kinds.specs.declared.rev_kind.RevKind.TheVariants.{Content, Move, Mark, Row, Cell, Change}

-- what the revision is that an element of this kind is in, where it is in one and moves are left aside
abbrev pub kind_of : Kind → Option RevKind
kind_of kinds.Plain = None
kind_of (kinds.Content trace) = Some (Content trace)
kind_of (kinds.Mark trace) = Some (Mark trace)
kind_of (kinds.Row trace) = Some (Row trace)
kind_of (kinds.Cell trace) = Some (Cell trace)
kind_of (kinds.Change prop) = Some (Change prop)
kind_of kinds.Marker = Some Move

-- the kind of a marker of a paired move
abbrev pub is_marker_kind : Kind → Bool
is_marker_kind kinds.Marker = true
is_marker_kind _ = false
