-- Over run content alone the pass is one plain recursion: each node gives its part by itself, freed content gives its
-- passed kids, and content that is cut gives nothing. Joined paragraphs, tables, moves and former properties don't come in.
use Prim.Native.String.{String}
use Rattle.std.proofs.Common.{◌≡◌, ◌∙◌, refl, sym, ap, List, [], ◌∷◌, ◌++◌, Bool, true, false, true≢false, ◌&&◌, ◌||◌, Option, None, if◌then◌else◌}
use Rattle.std.proofs.lemmas.Bool.{and_parts, and_from, cond-false}
use Rattle.std.proofs.Math.Bool.{and-false}
use Rattle.redl_tree.specs.Model.Nodes.{Tag, Nodes, no_nodes, bytes, element, ◌⊕◌}
use Rattle.redl_tree.specs.Roles.Names.{is}
use Rattle.redl_tree.specs.Model.Kids.{kids_of_all}
use Rattle.redl_tree.specs.Roles.Lists.{into, is_direct, in_cells, is_shell}
use Rattle.redl_tree.specs.Decisions.Fates.{fate_of, renamed}
use Rattle.redl_tree.specs.Roles.Kinds.{is_content, is_restore, is_mark, is_row, is_cell}
use Rattle.redl_tree.specs.Decisions.Restored.{Rejected, rejected, rejected_as, after_change}
use Rattle.redl_tree.specs.Decisions.Tables.{own, has_cut, para_is_cut, cell_is_cut, all_of_some, cells_go, row_goes, rows_go, goes_at}
use Rattle.redl_tree.specs.Decisions.Pass.{by_fate, element_pass, is_block_para, pass}
use Rattle.redl_tree.specs.declared.kinds.Kind.{Kind}
use Rattle.redl_tree.specs.declared.kinds.Kind.TheVariants.{Plain, Content, Mark, Row, Cell, Change, Marker}
use Rattle.redl_tree.specs.declared.kinds.Say.{Say}
use Rattle.redl_tree.specs.declared.lists.Reach.{Reach}
use Rattle.redl_tree.specs.declared.lists.Reach.TheVariants.{Direct}
use Rattle.redl_tree.proofs.Decisions.PassLaws.{pass-apart}

-- the pass that goes node by node
abbrev pub element_before : List Say → List Tag → Tag → Nodes → Nodes
element_before says ancestors tag passed =
    by_fate (fate_of says tag) (is_content tag.kind) passed (element (renamed says ancestors tag) passed no_nodes)

abbrev pub pass_before : List Say → List Tag → Nodes → Nodes
pass_before says ancestors no_nodes = no_nodes
pass_before says ancestors (bytes b rest) = bytes b (pass_before says ancestors rest)
pass_before says ancestors (element tag kids rest) =
    element_before says ancestors tag (pass_before says (tag ∷ ancestors) kids) ⊕ pass_before says ancestors rest

-- no member but content
abbrev pub is_simple : Kind → Bool
is_simple Plain = true
is_simple (Content trace) = true
is_simple _ = false

abbrev pub are_simple : Nodes → Bool
are_simple no_nodes = true
are_simple (bytes b rest) = are_simple rest
are_simple (element tag kids rest) = is_simple tag.kind && (are_simple kids && are_simple rest)

simple-⊕ : (xs ys : Nodes) → are_simple xs ≡ true → are_simple ys ≡ true → are_simple (xs ⊕ ys) ≡ true
simple-⊕ no_nodes ys h k = k
simple-⊕ (bytes b rest) ys h k = simple-⊕ rest ys h k
simple-⊕ (element tag kids rest) ys h k =
    let a = and_parts (is_simple tag.kind) (are_simple kids && are_simple rest) h in
    let b = and_parts (are_simple kids) (are_simple rest) a.1 in
    and_from (is_simple tag.kind) (are_simple kids && are_simple (rest ⊕ ys)) a.0 (and_from (are_simple kids) (are_simple (rest ⊕ ys)) b.0 (simple-⊕ rest ys b.1 k))

simple_if : (b : Bool) (x y : Nodes) → are_simple x ≡ true → are_simple y ≡ true → are_simple (if b then x else y) ≡ true
simple_if true x y h k = h
simple_if false x y h k = k

simple_kids : (name : String) (nodes : Nodes) → are_simple nodes ≡ true → are_simple (kids_of_all name nodes) ≡ true
simple_kids name no_nodes h = refl
simple_kids name (bytes b rest) h = simple_kids name rest h
simple_kids name (element tag kids rest) h =
    let a = and_parts (is_simple tag.kind) (are_simple kids && are_simple rest) h in
    let b = and_parts (are_simple kids) (are_simple rest) a.1 in
    let more = simple_kids name rest b.1 in
    simple_if (is name tag) (kids ⊕ kids_of_all name rest) (kids_of_all name rest) (simple-⊕ kids (kids_of_all name rest) b.0 more) more

-- a test of kinds that no simple one passes
abbrev IsNew : (Kind → Bool) → Type 0
IsNew test = (k : Kind) → is_simple k ≡ true → test k ≡ false

no_cut : (test : Kind → Bool) → IsNew test → (says : List Say) (nodes : Nodes) → are_simple nodes ≡ true → has_cut test says nodes ≡ false
no_cut test n says no_nodes h = refl
no_cut test n says (bytes b rest) h = no_cut test n says rest h
no_cut test n says (element tag kids rest) h =
    let a = and_parts (is_simple tag.kind) (are_simple kids && are_simple rest) h in
    let b = and_parts (are_simple kids) (are_simple rest) a.1 in
    rw (n tag.kind a.0, no_cut test n says rest b.1) refl

new_mark : IsNew is_mark
new_mark Plain h = refl
new_mark (Content t) h = refl
new_mark (Mark t) h = sym h
new_mark (Row t) h = refl
new_mark (Cell t) h = refl
new_mark (Change p) h = refl
new_mark Marker h = refl

new_row : IsNew is_row
new_row Plain h = refl
new_row (Content t) h = refl
new_row (Mark t) h = refl
new_row (Row t) h = sym h
new_row (Cell t) h = refl
new_row (Change p) h = refl
new_row Marker h = refl

new_cell : IsNew is_cell
new_cell Plain h = refl
new_cell (Content t) h = refl
new_cell (Mark t) h = refl
new_cell (Row t) h = refl
new_cell (Cell t) h = sym h
new_cell (Change p) h = refl
new_cell Marker h = refl

pub no_para_cut : (says : List Say) (kids : Nodes) → are_simple kids ≡ true → para_is_cut says kids ≡ false
no_para_cut says kids h = no_cut is_mark new_mark says (kids_of_all "rPr" (kids_of_all "pPr" kids)) (simple_kids "rPr" (kids_of_all "pPr" kids) (simple_kids "pPr" kids h))

-- none of the own rows or cells goes, and so no list of these
abbrev AllSimple : List Nodes → Type 0
AllSimple [] = Unit {0}
AllSimple (x ∷ xs) = (are_simple x ≡ true) × AllSimple xs

simple_append : (xs ys : List Nodes) → AllSimple xs → AllSimple ys → AllSimple (xs ++ ys)
simple_append [] ys h k = k
simple_append (x ∷ xs) ys h k = (h.0, simple_append xs ys h.1 k)

simple_own : (name : String) (reach : Reach) (nodes : Nodes) → are_simple nodes ≡ true → AllSimple (own name reach nodes)
simple_own name reach no_nodes h = tt
simple_own name reach (bytes b rest) h = simple_own name reach rest h
simple_own name reach (element tag kids rest) h =
    let a = and_parts (is_simple tag.kind) (are_simple kids && are_simple rest) h in
    let b = and_parts (are_simple kids) (are_simple rest) a.1 in
    simple_append (if is_direct reach && is name tag then kids ∷ [] else own name (into reach tag) kids) (own name reach rest)
    (at (is_direct reach && is name tag) b.0 (simple_own name (into reach tag) kids b.0)) (simple_own name reach rest b.1)
  where
    at : (b : Bool) → are_simple kids ≡ true → AllSimple (own name (into reach tag) kids) → AllSimple (if b then kids ∷ [] else own name (into reach tag) kids)
    at true h k = (h, tt)
    at false h k = k

none_pass : (test : Nodes → Bool) → ((nodes : Nodes) → are_simple nodes ≡ true → test nodes ≡ false) → (xs : List Nodes) → AllSimple xs → all_of_some test xs ≡ false
none_pass test f [] h = refl
none_pass test f (x ∷ xs) h = rw (f x h.0) refl

no_cell_cut : (says : List Say) (kids : Nodes) → are_simple kids ≡ true → cell_is_cut says kids ≡ false
no_cell_cut says kids h = no_cut is_cell new_cell says (kids_of_all "tcPr" kids) (simple_kids "tcPr" kids h)

no_cells : (says : List Say) (reach : Reach) (kids : Nodes) → are_simple kids ≡ true → cells_go says reach kids ≡ false
no_cells says reach kids h = none_pass (cell_is_cut says) (no_cell_cut says) (own "tc" reach kids) (simple_own "tc" reach kids h)

no_row : (says : List Say) (kids : Nodes) → are_simple kids ≡ true → row_goes says kids ≡ false
no_row says kids h = rw (no_cut is_row new_row says (kids_of_all "trPr" kids) (simple_kids "trPr" kids h), no_cells says Direct kids h) refl

no_rows : (says : List Say) (reach : Reach) (kids : Nodes) → are_simple kids ≡ true → rows_go says reach kids ≡ false
no_rows says reach kids h = none_pass (row_goes says) (no_row says) (own "tr" reach kids) (simple_own "tr" reach kids h)

none_goes : (any cell row table in_row : Bool) (v x y z u : Bool) → v ≡ false → x ≡ false → y ≡ false → z ≡ false → u ≡ false →
    (any && (if cell then v else if row then x else if table then y else if in_row then z else u)) ≡ false
none_goes false cell row table in_row v x y z u e f g h k = refl
none_goes true true row table in_row v x y z u e f g h k = e
none_goes true false true table in_row v x y z u e f g h k = f
none_goes true false false true in_row v x y z u e f g h k = g
none_goes true false false false true v x y z u e f g h k = h
none_goes true false false false false v x y z u e f g h k = k

pub nothing_goes : (says : List Say) (ancestors : List Tag) (tag : Tag) (kids : Nodes) → are_simple kids ≡ true → goes_at says ancestors tag kids ≡ false
nothing_goes says ancestors tag kids h =
    none_goes (is "tc" tag || is "tr" tag || is "tbl" tag || is_shell ancestors tag) (is "tc" tag) (is "tr" tag) (is "tbl" tag) (in_cells ancestors)
    (cell_is_cut says kids) (row_goes says kids) (rows_go says Direct kids) (cells_go says (into Direct tag) kids) (rows_go says (into Direct tag) kids)
    (no_cell_cut says kids h) (no_row says kids h) (no_rows says Direct kids h) (no_cells says (into Direct tag) kids h) (no_rows says (into Direct tag) kids h)

rejected_simple : (b : Bool) (k : Kind) (kids : Nodes) (later : Option Rejected) → is_simple k ≡ true → rejected_as b k kids later ≡ later
rejected_simple true Plain kids later h = refl
rejected_simple true (Content t) kids later h = refl
rejected_simple true (Mark t) kids later h = refl
rejected_simple true (Row t) kids later h = refl
rejected_simple true (Cell t) kids later h = refl
rejected_simple true (Change p) kids later h = absurd (true≢false (sym h))
rejected_simple true Marker kids later h = refl
rejected_simple false k kids later h = refl

pub none_rejected : (says : List Say) (kids : Nodes) → are_simple kids ≡ true → rejected says kids ≡ None
none_rejected says no_nodes h = refl
none_rejected says (bytes b rest) h = none_rejected says rest h
none_rejected says (element tag kids rest) h =
    let a = and_parts (is_simple tag.kind) (are_simple kids && are_simple rest) h in
    let b = and_parts (are_simple kids) (are_simple rest) a.1 in
    rejected_simple (is_restore (fate_of says tag)) tag.kind kids (rejected says rest) a.0 ∙ none_rejected says rest b.1

element-before : (says : List Say) (ancestors : List Tag) (tag : Tag) (kids passed : Nodes) → are_simple kids ≡ true →
    element_pass says ancestors tag kids passed ≡ element_before says ancestors tag passed
element-before says ancestors tag kids passed h =
    ap (by_fate (fate_of says tag) (is_content tag.kind) passed)
    (cond-false (goes_at says ancestors tag kids) no_nodes (element (renamed says ancestors tag) (after_change ancestors tag (rejected says kids) passed) no_nodes) (nothing_goes says ancestors tag kids h)
    ∙ ap (λ r. element (renamed says ancestors tag) (after_change ancestors tag r passed) no_nodes) (none_rejected says kids h))

-- the pass is the plain recursion where all members among the nodes are run content
pub pass-before : (says : List Say) (ancestors : List Tag) (nodes : Nodes) → are_simple nodes ≡ true → pass says ancestors nodes ≡ pass_before says ancestors nodes
pass-before says ancestors no_nodes h = refl
pass-before says ancestors (bytes b rest) h = ap (bytes b) (pass-before says ancestors rest h)
pass-before says ancestors (element tag kids rest) h =
    let a = and_parts (is_simple tag.kind) (are_simple kids && are_simple rest) h in
    let b = and_parts (are_simple kids) (are_simple rest) a.1 in
    pass-apart says ancestors tag kids rest (rw (no_para_cut says kids b.0) (and-false (is_block_para says ancestors tag)))
    ∙ ap (λ p. element_pass says ancestors tag kids p ⊕ pass says ancestors rest) (pass-before says (tag ∷ ancestors) kids b.0)
    ∙ ap (λ n. n ⊕ pass says ancestors rest) (element-before says ancestors tag kids (pass_before says (tag ∷ ancestors) kids) b.0)
    ∙ ap (λ n. element_before says ancestors tag (pass_before says (tag ∷ ancestors) kids) ⊕ n) (pass-before says ancestors rest b.1)
