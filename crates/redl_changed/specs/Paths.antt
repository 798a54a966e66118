-- Names in lists of properties: which elements are left out, the path of an element, and the names of attributes.
use Rattle.std.specs.Prelude.{ℕ, ◌-◌, ◌&&◌, ◌||◌, Bool, false, List, [], ◌∷◌, ◌++◌, drop, take, length, bytes_eq, codes, Option, None, Some, if◌then◌else◌}
use Rattle.redl_reading.specs.Lists.{behind}
use Rattle.redl_tree.specs.Roles.Names.{is_w}
use Rattle.redl_tree.specs.declared.kinds.Prop.{Prop}
use Rattle.redl_tree.specs.declared.kinds.Prop.TheVariants as props
use Rattle.redl_tree.specs.declared.kinds.Space.{Space}

-- a mark of a revision
abbrev pub is_mark_name : List ℕ → Bool
is_mark_name local =
    bytes_eq local (codes "ins") || bytes_eq local (codes "del") || bytes_eq local (codes "moveFrom") || bytes_eq local (codes "moveTo")
    || bytes_eq local (codes "cellIns") || bytes_eq local (codes "cellDel") || bytes_eq local (codes "cellMerge")

-- what else a rejection of a change of these properties leaves in place: of a paragraph the properties of its mark and of its section, of
-- a section its headers and footers
abbrev pub is_uncovered_name : Prop → List ℕ → Bool
is_uncovered_name props.Para local = bytes_eq local (codes "rPr") || bytes_eq local (codes "sectPr")
is_uncovered_name props.Sect local = bytes_eq local (codes "headerReference") || bytes_eq local (codes "footerReference")
is_uncovered_name _ local = false

-- the name ends in `Change`, as that of each change of properties does
abbrev pub is_change_name : List ℕ → Bool
is_change_name local = bytes_eq (drop (length local - 6) local) (codes "Change")

abbrev pub is_in_place : Prop → Space → List ℕ → Bool
is_in_place what space local = is_w space && (is_mark_name local || is_uncovered_name what local)

-- an element with this name is left out, with what it holds
abbrev pub is_left_out : Prop → Space → List ℕ → Bool
is_left_out what space local = is_in_place what space local || is_change_name local

-- ---- paths

-- a side, as most documents name it
abbrev pub sided : List ℕ → List ℕ
sided local =
    if bytes_eq local (codes "start") then codes "left"
    else if bytes_eq local (codes "end") then codes "right"
    else local

-- what stands in front of a name, with a sign behind it, if there is something
abbrev pub front_of : List ℕ → List ℕ → List ℕ
front_of [] sign = []
front_of (first ∷ rest) sign = (first ∷ rest) ++ sign

abbrev pub whole_name : List ℕ → List ℕ → List ℕ
whole_name prefix local = front_of prefix (codes ":") ++ local

-- the name of an element in a path: outside WordprocessingML the whole name
abbrev pub name_in_path : Space → List ℕ → List ℕ → List ℕ
name_in_path space prefix local = if is_w space then sided local else whole_name prefix local

-- The path of an element with this name in an element with this path, which is empty for the list itself. Of a long one the beginning is
-- kept, which is too long to be compared.
abbrev pub below : List ℕ → List ℕ → List ℕ
below path name = take 256 (front_of path (codes "/") ++ name)

-- ---- attributes

abbrev pub sided_end : List ℕ → Option (List ℕ) → List ℕ
sided_end local None = local
sided_end local (Some rest) = codes "right" ++ rest

abbrev pub sided_start : List ℕ → Option (List ℕ) → List ℕ
sided_start local None = sided_end local (behind (codes "end") local)
sided_start local (Some rest) = codes "left" ++ rest

-- a name that begins with a side
abbrev pub sided_front : List ℕ → List ℕ
sided_front local = sided_start local (behind (codes "start") local)

-- the name of an attribute of an element with this path
abbrev pub attribute_name : List ℕ → List ℕ → List ℕ
attribute_name path local = if bytes_eq path (codes "ind") then sided_front local else local
