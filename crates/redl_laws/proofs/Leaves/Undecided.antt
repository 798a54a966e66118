-- Where nothing is decided all stays: the pass under no says is the original, and so is that of a leaf that holds no member or
-- marker of a decided revision.
use Rattle.std.proofs.Common.{◌≡◌, ◌∙◌, refl, sym, ap, ℕ, zero, suc, List, [], ◌∷◌, Bool, true, false, true≢false, ◌&&◌, ◌||◌, not, ◌==◌, None, if◌then◌else◌}
use Rattle.std.specs.List.{list_any, list_all}
use Rattle.std.proofs.Math.Bool.{and-false}
use Rattle.redl_tree.specs.Model.Nodes.{Tag, Nodes, no_nodes, bytes, element, ◌⊕◌}
use Rattle.redl_tree.specs.Model.Kids.{kids_of_all}
use Rattle.redl_tree.specs.Roles.Names.{is}
use Rattle.redl_tree.specs.Roles.Places.{is_open}
use Rattle.redl_tree.specs.Roles.Lists.{into, in_cells, is_shell, is_thick}
use Rattle.redl_tree.specs.Roles.Kinds.{is_content, is_old_content, is_free, is_leave, is_mark, is_row, is_cell, is_cut, is_restore}
use Rattle.redl_tree.specs.Decisions.Fates.{fate, fate_of, say_of, live_name, renamed}
use Rattle.redl_tree.specs.Decisions.Restored.{rejected, rejected_as, after_change}
use Rattle.redl_tree.specs.Decisions.Tables.{own, has_cut, para_is_cut, row_is_cut, cell_is_cut, all_of_some, cells_go, row_goes, rows_go, goes_at}
use Rattle.redl_tree.specs.Decisions.Groups.{GroupPiece, para, thin, thick, has_thick, joins, given, held_by, grouped_from, grouped}
use Rattle.redl_tree.specs.Decisions.Pass.{by_fate, kept_kids, element_pass, is_block_para, piece, pieces, pass}
use Rattle.redl_tree.specs.Leaves.Slots.{Leaf}
use Rattle.redl_tree.specs.Leaves.Present.{stand_ins, pass_leaf}
use Rattle.redl_tree.specs.Leaves.Living.{cut_at, all_gone, goes_by_counts}
use Rattle.redl_tree.specs.Leaves.Settings.{is_keep, is_decided, has_member}
use Rattle.redl_tree.specs.declared.lists.Reach.{Reach}
use Rattle.redl_tree.specs.declared.lists.Reach.TheVariants.{Direct}
use Rattle.redl_tree.specs.declared.kinds.Kind.{Kind}
use Rattle.redl_tree.specs.declared.kinds.Kind.TheVariants.{Plain, Content, Mark, Row, Cell, Change, Marker}
use Rattle.redl_tree.specs.declared.kinds.Fate.TheVariants.{Leave}
use Rattle.redl_tree.specs.declared.kinds.Say.{Say}
use Rattle.redl_tree.specs.declared.kinds.Say.TheVariants.{Keep, Accept, Reject}
use Rattle.redl_laws.proofs.Leaves.Locality.{pass_leaf-same, goes_at-same}

-- ---- no says

pub say-none : (n : ℕ) → say_of [] n ≡ Keep
say-none zero = refl
say-none (suc n) = refl

fate-keep : (kind : Kind) → fate kind Keep ≡ Leave
fate-keep Plain = refl
fate-keep (Content trace) = refl
fate-keep (Mark trace) = refl
fate-keep (Row trace) = refl
fate-keep (Cell trace) = refl
fate-keep (Change prop) = refl
fate-keep Marker = refl

left-none : (tag : Tag) → fate_of [] tag ≡ Leave
left-none tag = ap (fate tag.kind) (say-none tag.rev) ∙ fate-keep tag.kind

cut-none : (test : Kind → Bool) (nodes : Nodes) → has_cut test [] nodes ≡ false
cut-none test no_nodes = refl
cut-none test (bytes b rest) = cut-none test rest
cut-none test (element tag kids rest) =
    ap (λ f. test tag.kind && is_cut f || has_cut test [] rest) (left-none tag)
    ∙ ap (λ b. b || has_cut test [] rest) (and-false (test tag.kind))
    ∙ cut-none test rest

all-none : (test : Nodes → Bool) → ((kids : Nodes) → test kids ≡ false) → (xs : List Nodes) → all_of_some test xs ≡ false
all-none test h [] = refl
all-none test h (x ∷ xs) = ap (λ b. b && list_all test xs) (h x)

cells-none : (reach : Reach) (kids : Nodes) → cells_go [] reach kids ≡ false
cells-none reach kids = all-none (cell_is_cut []) (λ kids. cut-none is_cell (kids_of_all "tcPr" kids)) (own "tc" reach kids)

row-none : (kids : Nodes) → row_goes [] kids ≡ false
row-none kids = ap (λ b. b || cells_go [] Direct kids) (cut-none is_row (kids_of_all "trPr" kids)) ∙ cells-none Direct kids

rows-none : (reach : Reach) (kids : Nodes) → rows_go [] reach kids ≡ false
rows-none reach kids = all-none (row_goes []) row-none (own "tr" reach kids)

if-false : (c x y : Bool) → x ≡ false → y ≡ false → (if c then x else y) ≡ false
if-false true x y p q = p
if-false false x y p q = q

-- no container goes
pub goes_at-none : (ancestors : List Tag) (tag : Tag) (kids : Nodes) → goes_at [] ancestors tag kids ≡ false
goes_at-none ancestors tag kids =
    ap (λ b. (is "tc" tag || is "tr" tag || is "tbl" tag || is_shell ancestors tag) && b)
    (if-false (is "tc" tag) (cell_is_cut [] kids) _ (cut-none is_cell (kids_of_all "tcPr" kids))
    (if-false (is "tr" tag) (row_goes [] kids) _ (row-none kids)
    (if-false (is "tbl" tag) (rows_go [] Direct kids) _ (rows-none Direct kids)
    (if-false (in_cells ancestors) (cells_go [] (into Direct tag) kids) (rows_go [] (into Direct tag) kids)
    (cells-none (into Direct tag) kids) (rows-none (into Direct tag) kids)))))
    ∙ and-false (is "tc" tag || is "tr" tag || is "tbl" tag || is_shell ancestors tag)

pub cut_at-none : (tag : Tag) (kids : Nodes) → cut_at [] tag kids ≡ false
cut_at-none tag kids =
    if-false (is "tc" tag) (cell_is_cut [] kids) _ (cut-none is_cell (kids_of_all "tcPr" kids))
    (if-false (is "tr" tag) (row_is_cut [] kids) false (cut-none is_row (kids_of_all "trPr" kids)) refl)

freed-none : (ancestors : List Tag) → list_any (λ tag. is_old_content tag.kind && is_free (fate_of [] tag)) ancestors ≡ false
freed-none [] = refl
freed-none (tag ∷ ancestors) =
    ap (λ f. is_old_content tag.kind && is_free f || list_any (λ tag. is_old_content tag.kind && is_free (fate_of [] tag)) ancestors) (left-none tag)
    ∙ ap (λ b. b || list_any (λ tag. is_old_content tag.kind && is_free (fate_of [] tag)) ancestors) (and-false (is_old_content tag.kind))
    ∙ freed-none ancestors

renamed-none : (ancestors : List Tag) (tag : Tag) → renamed [] ancestors tag ≡ tag
renamed-none ancestors tag =
    ap (λ b. if is_open ancestors && b && not (list_any (λ tag. is_old_content tag.kind && is_leave (fate_of [] tag)) ancestors) then live_name tag else tag) (freed-none ancestors)
    ∙ ap (λ b. if b && not (list_any (λ tag. is_old_content tag.kind && is_leave (fate_of [] tag)) ancestors) then live_name tag else tag) (and-false (is_open ancestors))

rejected-none : (kids : Nodes) → rejected [] kids ≡ None
rejected-none no_nodes = refl
rejected-none (bytes b rest) = rejected-none rest
rejected-none (element tag kids rest) =
    ap (λ f. rejected_as (is_restore f) tag.kind kids (rejected [] rest)) (left-none tag) ∙ rejected-none rest

kept-none : (ancestors : List Tag) (tag : Tag) (kids passed : Nodes) → kept_kids [] ancestors tag kids passed ≡ passed
kept-none ancestors tag kids passed = ap (λ change. after_change ancestors tag change passed) (rejected-none kids)

element-none : (ancestors : List Tag) (tag : Tag) (kids passed : Nodes) → element_pass [] ancestors tag kids passed ≡ element tag passed no_nodes
element-none ancestors tag kids passed =
    ap (λ f. by_fate f (is_content tag.kind) passed
    (if goes_at [] ancestors tag kids then no_nodes else element (renamed [] ancestors tag) (kept_kids [] ancestors tag kids passed) no_nodes)) (left-none tag)
    ∙ ap (λ b. if b then no_nodes else element (renamed [] ancestors tag) (kept_kids [] ancestors tag kids passed) no_nodes) (goes_at-none ancestors tag kids)
    ∙ ap (λ t. element t (kept_kids [] ancestors tag kids passed) no_nodes) (renamed-none ancestors tag)
    ∙ ap (λ n. element tag n no_nodes) (kept-none ancestors tag kids passed)

abbrev whole_piece : Bool → Bool → Tag → Nodes → GroupPiece
whole_piece is_para heavy tag kids =
    if is_para then para tag false kids else if heavy then thick (element tag kids no_nodes) else thin (element tag kids no_nodes)

piece-none : (ancestors : List Tag) (tag : Tag) (kids passed : Nodes)
    → piece [] ancestors tag kids passed ≡ whole_piece (is_block_para [] ancestors tag) (is_thick tag) tag passed
piece-none ancestors tag kids passed =
    let p = is_block_para [] ancestors tag in
    let n = element_pass [] ancestors tag kids passed in
    ap (λ t. if p then para t (para_is_cut [] kids) (kept_kids [] ancestors tag kids passed) else if is_thick tag then thick n else thin n) (renamed-none ancestors tag)
    ∙ ap (λ b. if p then para tag b (kept_kids [] ancestors tag kids passed) else if is_thick tag then thick n else thin n)
    (cut-none is_mark (kids_of_all "rPr" (kids_of_all "pPr" kids)))
    ∙ ap (λ k. if p then para tag false k else if is_thick tag then thick n else thin n) (kept-none ancestors tag kids passed)
    ∙ ap (λ e. if p then para tag false passed else if is_thick tag then thick e else thin e) (element-none ancestors tag kids passed)

given-whole : (is_para heavy : Bool) (tag : Tag) (kids : Nodes) (rest : List GroupPiece) (followed : Bool)
    → given (whole_piece is_para heavy tag kids) None (joins (whole_piece is_para heavy tag kids) rest) (has_thick rest || followed)
    ⊕ grouped_from followed (held_by (whole_piece is_para heavy tag kids) None (joins (whole_piece is_para heavy tag kids) rest)) rest
    ≡ element tag kids (grouped_from followed None rest)
given-whole true heavy tag kids rest followed = refl
given-whole false true tag kids rest followed = refl
given-whole false false tag kids rest followed = refl

grouped-none : (followed : Bool) (ancestors : List Tag) (nodes : Nodes) → grouped followed (pieces [] ancestors nodes) ≡ nodes
grouped-none followed ancestors no_nodes = refl
grouped-none followed ancestors (bytes b rest) = ap (bytes b) (grouped-none followed ancestors rest)
grouped-none followed ancestors (element tag kids rest) =
    ap (λ p. grouped followed (p ∷ pieces [] ancestors rest)) (piece-none ancestors tag kids (pass [] (tag ∷ ancestors) kids))
    ∙ given-whole (is_block_para [] ancestors tag) (is_thick tag) tag (pass [] (tag ∷ ancestors) kids) (pieces [] ancestors rest) followed
    ∙ ap (λ k. element tag k (grouped followed (pieces [] ancestors rest))) (grouped-none false (tag ∷ ancestors) kids)
    ∙ ap (element tag kids) (grouped-none followed ancestors rest)

-- the law: under no says the pass changes nothing
pub pass-none : (ancestors : List Tag) (nodes : Nodes) → pass [] ancestors nodes ≡ nodes
pass-none ancestors nodes = grouped-none false ancestors nodes

pub pass_leaf-none : (leaf : Leaf) → pass_leaf [] leaf ≡ leaf.nodes
pass_leaf-none leaf = grouped-none leaf.followed (stand_ins leaf.among_blocks) leaf.nodes

-- ---- says of other revisions

keep-is : (say : Say) → not (is_keep say) ≡ false → say ≡ Keep
keep-is Keep h = refl
keep-is Accept h = absurd (true≢false h)
keep-is Reject h = absurd (true≢false h)

-- so a leaf that holds no member or marker of a decided revision is its original,
pub pass_leaf-undecided : (says : List Say) (leaf : Leaf) → has_member (is_decided says) leaf.nodes ≡ false → pass_leaf says leaf ≡ leaf.nodes
pass_leaf-undecided says leaf h =
    pass_leaf-same (is_decided says) says [] (λ n k. keep-is (say_of says n) k ∙ sym (say-none n)) leaf h ∙ pass_leaf-none leaf

-- and a container that holds none stays
pub goes_at-undecided : (says : List Say) (ancestors : List Tag) (tag : Tag) (kids : Nodes) → has_member (is_decided says) kids ≡ false
    → goes_at says ancestors tag kids ≡ false
goes_at-undecided says ancestors tag kids h =
    goes_at-same (is_decided says) says [] (λ n k. keep-is (say_of says n) k ∙ sym (say-none n)) ancestors tag kids h ∙ goes_at-none ancestors tag kids

-- a container all of whose rows or cells stay, and that is not cut, stays by its numbers
pub stays-fresh : (ancestors : List Tag) (tag : Tag) (n : ℕ) → goes_by_counts ancestors tag false n n ≡ false
stays-fresh ancestors tag n =
    if-false (is "tc" tag) false _ refl
    (if-false (is "tr" tag) (all_gone n n) _ (apart n)
    (ap (λ b. (is "tbl" tag || is_shell ancestors tag) && b) (apart n) ∙ and-false (is "tbl" tag || is_shell ancestors tag)))
  where
    apart : (n : ℕ) → all_gone n n ≡ false
    apart n = at (n == 0)
      where
        at : (b : Bool) → (not b && b) ≡ false
        at true = refl
        at false = refl
