-- The former properties: what a property element holds once a change of its properties is rejected (ECMA-376 Part 1,
-- 17.13.5.29 to 17.13.5.37).
use Rattle.std.specs.Prelude.{ℕ, List, [], ◌∷◌, Bool, true, false, ◌&&◌, not, Option, Some, None, if◌then◌else◌}
use Rattle.redl_tree.specs.Model.Nodes.{Tag, Nodes, no_nodes, bytes, element, ◌⊕◌}
use Rattle.redl_tree.specs.Roles.Names.{named, is, is_any}
use Rattle.redl_tree.specs.Roles.Places.{in_para_props, props_name}
use Rattle.redl_tree.specs.Decisions.Fates.{fate_of}
use Rattle.redl_tree.specs.Roles.Kinds.{is_restore}
use Rattle.redl_tree.specs.declared.kinds.Say.{Say}
use Rattle.redl_tree.specs.declared.kinds.Kind.{Kind}
use Rattle.redl_tree.specs.declared.kinds.Kind.TheVariants.{Change}
use Rattle.redl_tree.specs.Model.Kids.{only, without}
use Rattle.redl_tree.specs.declared.kinds.Prop.{Prop}
use Rattle.redl_tree.specs.declared.kinds.Prop.TheVariants.{Run, Para, Sect, Table, Except, Row as RowProp, Cell as CellProp}

-- elements that no change of these properties covers: the revisions of a paragraph's mark, of a row and of a cell, the
-- properties of a paragraph's mark and of its section, and the headers and footers of a section
abbrev pub is_uncovered : Prop → Tag → Bool
is_uncovered Run tag = is_any ("ins" ∷ "del" ∷ "moveFrom" ∷ "moveTo" ∷ []) tag
is_uncovered Para tag = is_any ("rPr" ∷ "sectPr" ∷ []) tag
is_uncovered Sect tag = is_any ("headerReference" ∷ "footerReference" ∷ []) tag
is_uncovered Table tag = false
is_uncovered Except tag = false
is_uncovered RowProp tag = is_any ("ins" ∷ "del" ∷ []) tag
is_uncovered CellProp tag = is_any ("cellIns" ∷ "cellDel" ∷ "cellMerge" ∷ []) tag

-- The former kids in place of the current ones. Elements that no change covers stay as they are now, at the place that the
-- schema gives them, and are left out of the former kids.
abbrev pub restored : Prop → Nodes → Nodes → Nodes
restored Run current former = only (is_uncovered Run) current ⊕ without (is_uncovered Run) former
restored Para current former = without (is_uncovered Para) former ⊕ only (is_uncovered Para) current
restored Sect current former = only (is_uncovered Sect) current ⊕ without (is_uncovered Sect) former
restored Table current former = former
restored Except current former = former
restored RowProp current former = without (is_uncovered RowProp) former ⊕ only (is_uncovered RowProp) current
restored CellProp current former = without (is_uncovered CellProp) former ⊕ only (is_uncovered CellProp) current

-- the former kids: those of the first element with this name, given by its bytes, among the kids of a change
abbrev pub former_kids : List ℕ → Nodes → Nodes
former_kids name no_nodes = no_nodes
former_kids name (bytes b rest) = former_kids name rest
former_kids name (element tag kids rest) = if named name tag then kids else former_kids name rest

-- a rejected change: of which properties, and the former kids
pub record Rejected : Type 0 where
  pub prop : Prop
  pub former : Nodes

-- an element with this kind and these kids, where it is a change that is rejected; else what the later ones give
abbrev pub rejected_as : Bool → Kind → Nodes → Option Rejected → Option Rejected
rejected_as true (Change prop) kids later = Some (record { prop = prop; former = former_kids (props_name prop) kids })
rejected_as _ kind kids later = later

-- the first change among these kids that is rejected
abbrev pub rejected : List Say → Nodes → Option Rejected
rejected says no_nodes = None
rejected says (bytes b rest) = rejected says rest
rejected says (element tag kids rest) =
    rejected_as (is_restore (fate_of says tag)) tag.kind kids (rejected says rest)

-- The current kids of a property element with these ancestors. Only the `rPr` of a paragraph's mark has revisions of a mark
-- to keep: from any other `rPr`, elements with their names are left out.
abbrev pub present : List Tag → Tag → Nodes → Nodes
present ancestors tag kids = if is "rPr" tag && not (in_para_props ancestors) then without (is_uncovered Run) kids else kids

-- the kids of an element that stays, whose passed kids are `passed`, after this rejected change if there is one
abbrev pub after_change : List Tag → Tag → Option Rejected → Nodes → Nodes
after_change ancestors tag None passed = passed
after_change ancestors tag (Some change) passed = restored change.prop (present ancestors tag passed) change.former
