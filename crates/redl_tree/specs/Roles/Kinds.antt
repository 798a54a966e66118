-- Questions about a kind or a fate.
use Rattle.std.specs.Prelude.{Bool, true, false}
use Rattle.redl_tree.specs.declared.kinds.Trace.TheVariants.{Del, From}
use Rattle.redl_tree.specs.declared.kinds.Kind.{Kind}
use Rattle.redl_tree.specs.declared.kinds.Kind.TheVariants.{Content, Mark, Row, Cell, Change}
use Rattle.redl_tree.specs.declared.kinds.Fate.{Fate}
use Rattle.redl_tree.specs.declared.kinds.Fate.TheVariants.{Leave, Free, Cut, Restore, Drop}

-- a content revision
abbrev pub is_content : Kind → Bool
is_content (Content trace) = true
is_content _ = false

-- a content revision of old matter: deleted, or moved from here
abbrev pub is_old_content : Kind → Bool
is_old_content (Content Del) = true
is_old_content (Content From) = true
is_old_content _ = false

-- a member in the properties of a paragraph's mark
abbrev pub is_mark : Kind → Bool
is_mark (Mark trace) = true
is_mark _ = false

-- a member in the properties of a row
abbrev pub is_row : Kind → Bool
is_row (Row trace) = true
is_row _ = false

-- a member in the properties of a cell
abbrev pub is_cell : Kind → Bool
is_cell (Cell trace) = true
is_cell _ = false

-- a change of properties
abbrev pub is_change : Kind → Bool
is_change (Change prop) = true
is_change _ = false

-- left as it is
abbrev pub is_leave : Fate → Bool
is_leave Leave = true
is_leave _ = false

-- its marks go, and what it holds stays
abbrev pub is_free : Fate → Bool
is_free Free = true
is_free _ = false

-- it goes, with what it holds or speaks of
abbrev pub is_cut : Fate → Bool
is_cut Cut = true
is_cut _ = false

-- the former properties are given back
abbrev pub is_restore : Fate → Bool
is_restore Restore = true
is_restore _ = false

-- a marker that goes
abbrev pub is_drop : Fate → Bool
is_drop Drop = true
is_drop _ = false
