-- Marks of changes that no revision holds, so that no decision changes them (our own rule).
use Rattle.std.specs.Prelude.{ℕ, ◌+◌, List, [], ◌∷◌, Bool, ◌&&◌, codes, bytes_eq, if◌then◌else◌}
use Rattle.std.specs.List.{list_any}
use Rattle.redl_tree.specs.Model.Nodes.{Tag, Nodes, no_nodes, bytes, element}
use Rattle.redl_tree.specs.Roles.Idle.{is_plain_kind}
use Rattle.redl_tree.specs.Roles.Names.{is_w}

-- the local names of marks of changes (ECMA-376 Part 1, 17.13.5)
abbrev pub mark_names : List (List ℕ)
mark_names =
    codes "ins" ∷ codes "del" ∷ codes "moveTo" ∷ codes "moveFrom"
    ∷ codes "cellIns" ∷ codes "cellDel" ∷ codes "cellMerge" ∷ codes "numberingChange"
    ∷ codes "rPrChange" ∷ codes "pPrChange" ∷ codes "sectPrChange" ∷ codes "tblPrChange" ∷ codes "tblPrExChange"
    ∷ codes "tblGridChange" ∷ codes "trPrChange" ∷ codes "tcPrChange"
    ∷ codes "customXmlInsRangeStart" ∷ codes "customXmlInsRangeEnd"
    ∷ codes "customXmlDelRangeStart" ∷ codes "customXmlDelRangeEnd"
    ∷ codes "customXmlMoveFromRangeStart" ∷ codes "customXmlMoveFromRangeEnd"
    ∷ codes "customXmlMoveToRangeStart" ∷ codes "customXmlMoveToRangeEnd" ∷ []

abbrev pub is_mark_name : List ℕ → Bool
is_mark_name name = list_any (bytes_eq name) mark_names

-- such an element of W that is in no revision
abbrev pub is_undecided : Tag → Bool
is_undecided tag = is_plain_kind tag.kind && (is_w tag.space && is_mark_name tag.local)

abbrev pub one_if : Bool → ℕ
one_if b = if b then 1 else 0

-- how many of them there are among nodes, at every depth
abbrev pub undecided_marks : Nodes → ℕ
undecided_marks no_nodes = 0
undecided_marks (bytes b rest) = undecided_marks rest
undecided_marks (element tag kids rest) = one_if (is_undecided tag) + undecided_marks kids + undecided_marks rest
