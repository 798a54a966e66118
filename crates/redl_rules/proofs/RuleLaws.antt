-- The rules by what the ancestors are to an element are the rules.
use Rattle.std.proofs.Common.{◌≡◌, refl, ap, ◌∙◌, List, [], ◌∷◌, Bool, true, false, ◌&&◌, ◌||◌, not}
use Rattle.std.proofs.Math.Bool.{and-true}
use Rattle.redl_tree.specs.Model.Nodes.{Tag, Nodes, no_nodes, bytes, element}
use Rattle.redl_tree.specs.Model.Kids.{has_element}
use Rattle.redl_tree.specs.Rules.Tests.{implies, open_one, once, each_once, only_first, only_last}
use Rattle.redl_tree.specs.Rules.CellEnds.{end_of, is_so}
use Rattle.redl_tree.specs.Rules.Sound.{change_declares, test_1, test_2, test_3, test_4, test_5, test_6, test_7, test_8, test_9}
use Rattle.redl_tree.specs.Decisions.Tables.{has_own}
use Rattle.redl_tree.specs.Roles.Names.{is}
use Rattle.redl_tree.specs.Roles.Kinds.{is_content, is_change}
use Rattle.redl_tree.specs.declared.lists.Reach.TheVariants.{Direct}
use Rattle.redl_tree.specs.Roles.Arounds.{parent_of, around_of, role_in}
use Rattle.redl_tree.specs.Roles.Places.{role, in_para_props, in_mark_props, in_row_props, in_cell_props}
use Rattle.redl_tree.specs.declared.around.Parent.{Parent}
use Rattle.redl_tree.specs.declared.around.Parent.TheVariants.{Para as InPara, Row as InRow, Cell as InCell, Body as InBody, ParaProps, MarkProps, RowProps, CellProps}
use Rattle.redl_tree.proofs.Roles.AroundLaws.{same, fits-same, role-in}
use Rattle.redl_rules.proofs.ChangeLaws.{no_change_in_content}
use Rattle.redl_rules.specs.Attributes.{has_id, declares}
use Rattle.redl_rules.specs.Rounds.{round_of}
use Rattle.redl_rules.specs.Inside.Rules.{ends_well, has_cells, by_round_3, by_round_4, marks_once, props_in_place, by_round_6, by_round_7, by_round_8, is_in_para, by_round_9}

pub test_3-by : (ancestors : List Tag) (tag : Tag) (kids : Nodes) → test_3 ancestors tag kids ≡ by_round_3 (around_of ancestors) (round_of ancestors) (role ancestors tag) tag kids
test_3-by ancestors tag kids = refl

pub test_7-by : (ancestors : List Tag) (tag : Tag) (kids : Nodes) → test_7 has_id ancestors tag kids ≡ by_round_7 (around_of ancestors) tag kids
test_7-by ancestors tag kids = refl

pub test_8-by : (ancestors : List Tag) (tag : Tag) (kids : Nodes) → test_8 ancestors tag kids ≡ by_round_8 (round_of ancestors) tag
test_8-by ancestors tag kids = refl

-- ---- rule 4

last-same : (test other : Tag → Bool) → ((tag : Tag) → test tag ≡ other tag) → (nodes : Nodes) → only_last test nodes ≡ only_last other nodes
last-same test other same no_nodes = refl
last-same test other same (bytes b rest) = last-same test other same rest
last-same test other same (element tag kids rest) =
    ap (λ b. implies b (not (has_element rest)) && only_last test rest) (same tag)
    ∙ ap (λ b. implies (other tag) (not (has_element rest)) && b) (last-same test other same rest)

pub test_4-by : (ancestors : List Tag) (tag : Tag) (kids : Nodes) → test_4 ancestors tag kids ≡ by_round_4 (around_of (tag ∷ ancestors)) kids
test_4-by ancestors tag kids = by (around_of (tag ∷ ancestors)).quiet refl
  where
    told : only_last (λ kid. is_change (role (tag ∷ ancestors) kid)) kids ≡ only_last (λ kid. is_change (role_in (around_of (tag ∷ ancestors)) kid)) kids
    told =
        last-same (λ kid. is_change (role (tag ∷ ancestors) kid)) (λ kid. is_change (role_in (around_of (tag ∷ ancestors)) kid))
        (λ kid. ap is_change (role-in (tag ∷ ancestors) kid)) kids

    by : (b : Bool) → (around_of (tag ∷ ancestors)).quiet ≡ b →
        test_4 ancestors tag kids ≡ (not b || only_last (λ kid. is_change (role_in (around_of (tag ∷ ancestors)) kid)) kids)
    by true is = told
    by false is = no_change_in_content (tag ∷ ancestors) (around_of (tag ∷ ancestors)) kids refl is

-- ---- rules of one parent

pub test_1-by : (ancestors : List Tag) (tag : Tag) (kids : Nodes) → test_1 ancestors tag kids ≡ ends_well (parent_of (tag ∷ ancestors)) kids
test_1-by ancestors tag kids = ap (λ b. implies b (is_so (end_of Direct kids))) (fits-same InCell (tag ∷ ancestors) refl) ∙ by (parent_of (tag ∷ ancestors))
  where
    by : (parent : Parent) → implies (same InCell parent) (is_so (end_of Direct kids)) ≡ ends_well parent kids
    by InCell = refl
    by _ = refl

pub test_2-by : (ancestors : List Tag) (tag : Tag) (kids : Nodes) → test_2 ancestors tag kids ≡ has_cells (parent_of (tag ∷ ancestors)) kids
test_2-by ancestors tag kids = ap (λ b. implies b (has_own "tc" Direct kids)) (fits-same InRow (tag ∷ ancestors) refl) ∙ by (parent_of (tag ∷ ancestors))
  where
    by : (parent : Parent) → implies (same InRow parent) (has_own "tc" Direct kids) ≡ has_cells parent kids
    by InRow = refl
    by _ = refl

-- ---- rule 5

-- what stands once where the nearest ancestor is so
abbrev once_by : Nodes → Bool → Bool → Bool → Bool → Bool
once_by kids para mark row cell =
    implies para (once "rPr" kids)
    && implies mark (each_once ("ins" ∷ "del" ∷ "moveFrom" ∷ "moveTo" ∷ []) kids)
    && implies row (each_once ("ins" ∷ "del" ∷ []) kids)
    && implies cell (each_once ("cellIns" ∷ "cellDel" ∷ []) kids)

once-by : (parent : Parent) (kids : Nodes) → once_by kids (same ParaProps parent) (same MarkProps parent) (same RowProps parent) (same CellProps parent) ≡ marks_once parent kids
once-by ParaProps kids = first (once "rPr" kids)
  where
    first : (a : Bool) → (a && true && true && true) ≡ a
    first true = refl
    first false = refl
once-by MarkProps kids = second (each_once ("ins" ∷ "del" ∷ "moveFrom" ∷ "moveTo" ∷ []) kids)
  where
    second : (a : Bool) → (a && true && true) ≡ a
    second true = refl
    second false = refl
once-by RowProps kids = and-true (each_once ("ins" ∷ "del" ∷ []) kids)
once-by _ kids = refl

once-told : (parent : Parent) (kids : Nodes) (para mark row cell : Bool) → para ≡ same ParaProps parent → mark ≡ same MarkProps parent →
    row ≡ same RowProps parent → cell ≡ same CellProps parent → once_by kids para mark row cell ≡ marks_once parent kids
once-told parent kids para mark row cell is_para is_mark is_row is_cell = rw (is_para, is_mark, is_row, is_cell) (once-by parent kids)

pub test_5-by : (ancestors : List Tag) (tag : Tag) (kids : Nodes) → test_5 ancestors tag kids ≡ marks_once (parent_of (tag ∷ ancestors)) kids
test_5-by ancestors tag kids =
    let inner = tag ∷ ancestors in
    once-told (parent_of inner) kids (in_para_props inner) (in_mark_props inner) (in_row_props inner) (in_cell_props inner)
    (fits-same ParaProps inner refl) (fits-same MarkProps inner refl) (fits-same RowProps inner refl) (fits-same CellProps inner refl)

-- ---- rule 6

-- what stands in its place where the parent of the kids is so
abbrev pub placed_by : Nodes → Bool → Bool → Bool → Bool → Bool → Bool
placed_by kids para row cell body control =
    implies para (only_first (is "pPr") kids)
    && implies row (once "trPr" kids)
    && implies cell (once "tcPr" kids)
    && implies body (only_last (is "sectPr") kids)
    && implies control (once "sdtContent" kids)

placed-by : (parent : Parent) (kids : Nodes) (control : Bool) →
    placed_by kids (same InPara parent) (same InRow parent) (same InCell parent) (same InBody parent) control
    ≡ (props_in_place parent kids && implies control (once "sdtContent" kids))
placed-by InPara kids control = first (only_first (is "pPr") kids)
  where
    first : (a : Bool) → (a && true && true && true && implies control (once "sdtContent" kids)) ≡ (a && implies control (once "sdtContent" kids))
    first true = refl
    first false = refl
placed-by InRow kids control = second (once "trPr" kids)
  where
    second : (a : Bool) → (a && true && true && implies control (once "sdtContent" kids)) ≡ (a && implies control (once "sdtContent" kids))
    second true = refl
    second false = refl
placed-by InCell kids control = ap (λ a. a && implies control (once "sdtContent" kids)) (and-true (once "tcPr" kids))
placed-by _ kids control = refl

placed-told : (parent : Parent) (kids : Nodes) (para row cell body control : Bool) → para ≡ same InPara parent → row ≡ same InRow parent →
    cell ≡ same InCell parent → body ≡ same InBody parent →
    placed_by kids para row cell body control ≡ (props_in_place parent kids && implies control (once "sdtContent" kids))
placed-told parent kids para row cell body control is_para is_row is_cell is_body =
    rw (is_para, is_row, is_cell, is_body) (placed-by parent kids control)

pub test_6-by : (ancestors : List Tag) (tag : Tag) (kids : Nodes) →
    test_6 ancestors tag kids ≡ by_round_6 (around_of (tag ∷ ancestors)) (around_of ancestors) tag kids
test_6-by ancestors tag kids =
    let inner = tag ∷ ancestors in
    placed-told (parent_of inner) kids (open_one "p" ancestors tag) (open_one "tr" ancestors tag) (open_one "tc" ancestors tag) (open_one "body" ancestors tag) (open_one "sdt" ancestors tag)
    (fits-same InPara inner refl) (fits-same InRow inner refl) (fits-same InCell inner refl) (fits-same InBody inner refl)

-- ---- rule 9

para-told : (parent : Parent) → same InPara parent ≡ is_in_para parent
para-told InPara = refl
para-told _ = refl

pub test_9-by : (ancestors : List Tag) (tag : Tag) (kids : Nodes) →
    test_9 declares ancestors tag kids ≡ by_round_9 (parent_of (tag ∷ ancestors)) (role ancestors tag) tag kids
test_9-by ancestors tag kids =
    let kind = role ancestors tag in
    ap (λ b. implies (b || is_content kind || is_change kind) (not (declares tag.tail)) && not (change_declares declares kind kids))
    (fits-same InPara (tag ∷ ancestors) refl ∙ para-told (parent_of (tag ∷ ancestors)))
