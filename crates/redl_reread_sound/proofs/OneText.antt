-- Nodes whose text has a tree have no stretches that meet and form `]]>`.
use Rattle.std.proofs.Common.{◌≡◌, ◌∙◌, refl, sym, ap, arith, ℕ, List, [], ◌∷◌, ◌++◌, append_assoc, append-nil, true, false, not, ◌⊎◌, inl, inr}
use Rattle.std.proofs.lemmas.Bool.{and_from, both_ways}
use Rattle.std.proofs.lemmas.List.{append_cancel_right}
use Rattle.redl_grammar.specs.Names.{name_text, IsName}
use Rattle.redl_grammar.specs.Pieces.{start_tag, empty_tag, end_tag, stretch}
use Rattle.redl_grammar.specs.Stretches.{IsStretch, ends_stretch}
use Rattle.redl_grammar.specs.Tails.{IsTail}
use Rattle.redl_grammar.specs.declared.section.Section.TheVariants.{BeforeRoot, InElement, AfterRoot}
use Rattle.redl_grammar.proofs.Names.{name_head}
use Rattle.redl_grammar.proofs.Pieces.{one_piece, start_ends_stretch}
use Rattle.redl_tree.specs.Model.Nodes.{Tag, Nodes, no_nodes, bytes, element, ◌⊕◌, Close, Empty, End}
use Rattle.redl_tree.specs.Model.Text.{text}
use Rattle.redl_tree.proofs.Model.TreeTexts.{close_then, tree_then}
use Rattle.redl_xml.specs.Inside.Documents.{bytes_or_none}
use Rattle.redl_xml.specs.Readings.{name_of, ClosesBy, AreLegal, IsReading, IsStretchOrNone}
use Rattle.redl_xml.specs.Scopes.{Scope, scope_in}
use Rattle.redl_xml.specs.Shapes.{begins_with_bytes}
use Rattle.redl_xml.proofs.Complete.{nodes_end_stretch}
use Rattle.redl_xml.proofs.Documents.{has_bytes, whole_then}
use Rattle.redl_reread_sound.specs.Together.{stretched, together, forms_end, meets_well, meet_well}
use Rattle.redl_reread_sound.proofs.Parted.{forms-none, stretch-parted, stretch-opens}
use Rattle.redl_reread_sound.proofs.ReadNodes.{IsReadTag, AreRead}

-- ---- elements

-- an element, before what follows it
abbrev element_then : Tag → Close → Nodes → List ℕ → List ℕ
element_then tag close kids y = 60 ∷ (name_text (name_of tag) ++ (tag.tail ++ close_then tag close (tree_then kids) y))

-- an end tag, before what follows it
abbrev end_then : Tag → List ℕ → List ℕ → List ℕ
end_then tag space y = name_text (name_of tag) ++ (space ++ (62 ∷ y))

-- two elements with which one text begins: the first has kids that meet well, and the same follows both
record AsOne (kids : Nodes) (y z : List ℕ) : Type 0 where
  well : meet_well kids ≡ true
  behind : y ≡ z

elements-one : (tag other : Tag) (kids more : Nodes) (close shut : Close) (y z : List ℕ) → IsName (name_of tag) → IsTail tag.tail → ClosesBy close kids → IsName (name_of other) → IsTail other.tail → ClosesBy shut more
    → ((u v : List ℕ) → tree_then kids (60 ∷ 47 ∷ u) ≡ tree_then more (60 ∷ 47 ∷ v) → AsOne kids u v) → element_then tag close kids y ≡ element_then other shut more z → AsOne kids y z
elements-one tag other kids more Empty Empty y z n t c m s d inside e =
    let one = one_piece InElement (element_then tag Empty kids y) (empty_tag (name_of tag) tag.tail) (empty_tag (name_of other) other.tail) y z
    (record { whole = refl; legal = (n, t); follows = tt }) (record { whole = e; legal = (m, s); follows = tt }) in
    record { well = ap meet_well c; behind = one.1 }
elements-one tag other kids more Empty (End white) y z n t c m s d inside e =
    let one = one_piece InElement (element_then tag Empty kids y) (empty_tag (name_of tag) tag.tail) (start_tag (name_of other) other.tail) y (tree_then more (60 ∷ 47 ∷ end_then other white z))
    (record { whole = refl; legal = (n, t); follows = tt }) (record { whole = e; legal = (m, s); follows = tt }) in
    absurd (cc (one.0))
elements-one tag other kids more (End space) Empty y z n t c m s d inside e =
    let one = one_piece InElement (element_then tag (End space) kids y) (start_tag (name_of tag) tag.tail) (empty_tag (name_of other) other.tail) (tree_then kids (60 ∷ 47 ∷ end_then tag space y)) z
    (record { whole = refl; legal = (n, t); follows = tt }) (record { whole = e; legal = (m, s); follows = tt }) in
    absurd (cc (one.0))
elements-one tag other kids more (End space) (End white) y z n t c m s d inside e =
    let first : List ℕ = end_then tag space y in
    let second : List ℕ = end_then other white z in
    let one = one_piece InElement (element_then tag (End space) kids y) (start_tag (name_of tag) tag.tail) (start_tag (name_of other) other.tail)
    (tree_then kids (60 ∷ 47 ∷ first)) (tree_then more (60 ∷ 47 ∷ second))
    (record { whole = refl; legal = (n, t); follows = tt }) (record { whole = e; legal = (m, s); follows = tt }) in
    let it = inside first second one.1 in
    let ends = one_piece InElement (60 ∷ 47 ∷ first) (end_tag (name_of tag) space) (end_tag (name_of other) white) y z
    (record { whole = refl; legal = (n, c); follows = tt }) (record { whole = ap (λ (w : List ℕ). 60 ∷ 47 ∷ w) it.behind; legal = (m, d); follows = tt }) in
    record { well = it.well; behind = ends.1 }

-- an end tag is no element
no-element : (tag : Tag) (close : Close) (kids : Nodes) (u y : List ℕ) → IsName (name_of tag) → 60 ∷ 47 ∷ u ≡ element_then tag close kids y → ⊥
no-element tag close kids u y n e =
    let head = name_head (name_of tag) n in
    let at : 47 ∷ u ≡ (head.0 ∷ head.1) ++ (tag.tail ++ close_then tag close (tree_then kids) y) =
    cc (e, ap (λ (w : List ℕ). w ++ (tag.tail ++ close_then tag close (tree_then kids) y)) head.3) in
    let same : 47 ≡ head.0 = cc (at) in
    omega arith

-- ---- the nodes of an element

-- the stretch at their beginning
abbrev first_of : Nodes → List ℕ
first_of no_nodes = []
first_of (bytes b rest) = b
first_of (element tag kids rest) = []

none-first : (x : Nodes) → begins_with_bytes x ≡ false → first_of x ≡ []
none-first no_nodes h = refl
none-first (bytes b rest) h = absurd (both_ways true h refl)
none-first (element tag kids rest) h = refl

first-stretched : (b : List ℕ) (x : Nodes) → first_of (stretched b x) ≡ b ++ first_of x
first-stretched b no_nodes = sym (append-nil b)
first-stretched b (bytes c rest) = refl
first-stretched b (element tag kids rest) = sym (append-nil b)

meets-first : (b : List ℕ) (x : Nodes) → meets_well b x ≡ not (forms_end b (first_of x))
meets-first b no_nodes = ap not (sym (forms-none b))
meets-first b (bytes c rest) = refl
meets-first b (element tag kids rest) = ap not (sym (forms-none b))

-- bytes, if there are any, before nodes
abbrev put : List ℕ → Nodes → Nodes
put [] x = x
put (b ∷ bs) x = bytes (b ∷ bs) x

put-then : (b : List ℕ) (x : Nodes) (y : List ℕ) → tree_then (put b x) y ≡ b ++ tree_then x y
put-then [] x y = refl
put-then (b ∷ bs) x y = refl

put-legal : (scope : Scope) (b : List ℕ) (x : Nodes) → ((b ≡ []) ⊎ IsStretch InElement b) → begins_with_bytes x ≡ false → AreLegal scope x → AreLegal scope (put b x)
put-legal scope [] x is none h = h
put-legal scope (b ∷ bs) x (inl e) none h = absurd (cc e)
put-legal scope (b ∷ bs) x (inr is) none h = (is, none, h)

put-first : (b : List ℕ) (x : Nodes) → begins_with_bytes x ≡ false → first_of (put b x) ≡ b
put-first [] x none = none-first x none
put-first (b ∷ bs) x none = refl

-- nodes that were read, and the tree of their text: they meet well, begin alike, and the same follows both
record AsTree (x y : Nodes) (u v : List ℕ) : Type 0 where
  well : meet_well x ≡ true
  begin : first_of (together x) ≡ first_of y
  behind : u ≡ v

-- what was one stretch in the tree, after its first part
bytes-tree : (b s : List ℕ) (rest more : Nodes) (u v : List ℕ) (scope : Scope) → IsStretch InElement b → IsStretch InElement s → begins_with_bytes more ≡ false → AreLegal scope more
    → ((y : Nodes) → AreLegal scope y → tree_then rest (60 ∷ 47 ∷ u) ≡ tree_then y (60 ∷ 47 ∷ v) → AsTree rest y u v)
    → b ++ tree_then rest (60 ∷ 47 ∷ u) ≡ s ++ tree_then more (60 ∷ 47 ∷ v) → AsTree (bytes b rest) (bytes s more) u v
bytes-tree b s rest more u v scope h g none legal next e =
    let x : List ℕ = tree_then rest (60 ∷ 47 ∷ u) in
    let y : List ℕ = tree_then more (60 ∷ 47 ∷ v) in
    let it = stretch-parted b s x y h g (nodes_end_stretch scope more (60 ∷ 47 ∷ v) legal none refl) e in
    let tree = next (put it.more more) (put-legal scope it.more more it.is none legal) (it.left ∙ sym (put-then it.more more (60 ∷ 47 ∷ v))) in
    let begin : first_of (together rest) ≡ it.more = tree.begin ∙ put-first it.more more none in
    record {
      well = and_from (meets_well b (together rest)) (meet_well rest)
          (meets-first b (together rest) ∙ ap (λ (z : List ℕ). not (forms_end b z)) begin ∙ ap not it.well) tree.well;
      begin = first-stretched b (together rest) ∙ ap (λ (z : List ℕ). b ++ z) begin
          ∙ append_cancel_right (b ++ it.more) s y (append_assoc b it.more y ∙ ap (λ (z : List ℕ). b ++ z) (sym it.left) ∙ e);
      behind = tree.behind;
    }

as-tree : (scope other : Scope) (x y : Nodes) (u v : List ℕ) → AreRead scope x → AreLegal other y → tree_then x (60 ∷ 47 ∷ u) ≡ tree_then y (60 ∷ 47 ∷ v) → AsTree x y u v
as-tree scope other no_nodes no_nodes u v h g e = record { well = refl; begin = refl; behind = cc (e) }
as-tree scope other no_nodes (bytes s more) u v h g e =
    absurd (both_ways true (ap ends_stretch e ∙ stretch-opens s (tree_then more (60 ∷ 47 ∷ v)) g.0) refl)
as-tree scope other no_nodes (element t k more) u v h g e = absurd (no-element t t.close k u (tree_then more (60 ∷ 47 ∷ v)) g.0.name e)
as-tree scope other (bytes b rest) no_nodes u v h g e =
    absurd (both_ways true (ap ends_stretch (sym e) ∙ stretch-opens b (tree_then rest (60 ∷ 47 ∷ u)) h.0.stretch) refl)
as-tree scope other (bytes b rest) (bytes s more) u v h g e =
    bytes-tree b s rest more u v other h.0.stretch g.0 g.1 g.2 (λ y legal same. as-tree scope other rest y u v h.1 legal same) e
as-tree scope other (bytes b rest) (element t k more) u v h g e =
    let opens = stretch-opens b (tree_then rest (60 ∷ 47 ∷ u)) h.0.stretch in
    absurd (both_ways _ (ap ends_stretch (sym e) ∙ opens) (nodes_end_stretch other (element t k more) (60 ∷ 47 ∷ v) g refl refl))
as-tree scope other (element tag kids rest) no_nodes u v h g e = absurd (no-element tag tag.close kids v (tree_then rest (60 ∷ 47 ∷ u)) h.0.name (sym e))
as-tree scope other (element tag kids rest) (bytes s more) u v h g e =
    let opens = stretch-opens s (tree_then more (60 ∷ 47 ∷ v)) g.0 in
    absurd (both_ways _ (ap ends_stretch e ∙ opens) (start_ends_stretch (name_of tag) (tag.tail ++ close_then tag tag.close (tree_then kids) (tree_then rest (60 ∷ 47 ∷ u))) h.0.name))
as-tree scope other (element tag kids rest) (element t k more) u v h g e =
    let inside : (w z : List ℕ) → tree_then kids (60 ∷ 47 ∷ w) ≡ tree_then k (60 ∷ 47 ∷ z) → AsOne kids w z = λ w z same.
    let it = as-tree (scope_in tag.tail scope) (scope_in t.tail other) kids k w z h.2 g.2 same in record { well = it.well; behind = it.behind } in
    let one = elements-one tag t kids k tag.close t.close (tree_then rest (60 ∷ 47 ∷ u)) (tree_then more (60 ∷ 47 ∷ v)) h.0.name h.0.scoped.tail h.1 g.0.name g.0.tail g.1 inside e in
    let later = as-tree scope other rest more u v h.3 g.3 one.behind in
    record { well = and_from (meet_well kids) (meet_well rest) one.well later.well; begin = refl; behind = later.behind }

-- ---- documents

-- a tag is no stretch
no-stretch : (tag : Tag) (close : Close) (kids : Nodes) (y b z : List ℕ) → IsName (name_of tag) → IsTail tag.tail → IsStretch BeforeRoot b → ends_stretch z ≡ true → element_then tag close kids y ≡ b ++ z → ⊥
no-stretch tag Empty kids y b z n t h end e =
    let one = one_piece BeforeRoot (element_then tag Empty kids y) (empty_tag (name_of tag) tag.tail) (stretch b) y z (record { whole = refl; legal = (n, t); follows = tt }) (record { whole = e; legal = h; follows = end }) in
    cc (one.0)
no-stretch tag (End space) kids y b z n t h end e =
    let one = one_piece BeforeRoot (element_then tag (End space) kids y) (start_tag (name_of tag) tag.tail) (stretch b) (tree_then kids (60 ∷ 47 ∷ end_then tag space y)) z
    (record { whole = refl; legal = (n, t); follows = tt }) (record { whole = e; legal = h; follows = end }) in
    cc (one.0)

element-ends : (tag : Tag) (close : Close) (kids : Nodes) (y : List ℕ) → IsName (name_of tag) → ends_stretch (element_then tag close kids y) ≡ true
element-ends tag close kids y n = start_ends_stretch (name_of tag) (tag.tail ++ close_then tag close (tree_then kids) y) n

-- the stretch before the root, or none, is the same in both
roots-one : (tag other : Tag) (kids more : Nodes) (b s y z : List ℕ) → IsName (name_of tag) → IsTail tag.tail → IsName (name_of other) → IsTail other.tail
    → ((b ≡ []) ⊎ IsStretch BeforeRoot b) → ((s ≡ []) ⊎ IsStretch BeforeRoot s)
    → b ++ element_then tag tag.close kids y ≡ s ++ element_then other other.close more z → element_then tag tag.close kids y ≡ element_then other other.close more z
roots-one tag other kids more b s y z n t m g (inl none) (inl nothing) e =
    sym (ap (λ (x : List ℕ). x ++ element_then tag tag.close kids y) none) ∙ e ∙ ap (λ (x : List ℕ). x ++ element_then other other.close more z) nothing
roots-one tag other kids more b s y z n t m g (inl none) (inr h) e =
    absurd (no-stretch tag tag.close kids y s (element_then other other.close more z) n t h (element-ends other other.close more z m)
    (sym (ap (λ (x : List ℕ). x ++ element_then tag tag.close kids y) none) ∙ e))
roots-one tag other kids more b s y z n t m g (inr h) (inl nothing) e =
    absurd (no-stretch other other.close more z b (element_then tag tag.close kids y) m g h (element-ends tag tag.close kids y n)
    (sym (e ∙ ap (λ (x : List ℕ). x ++ element_then other other.close more z) nothing)))
roots-one tag other kids more b s y z n t m g (inr h) (inr k) e =
    (one_piece BeforeRoot (b ++ element_then tag tag.close kids y) (stretch b) (stretch s) (element_then tag tag.close kids y) (element_then other other.close more z)
    (record { whole = refl; legal = h; follows = element-ends tag tag.close kids y n }) (record { whole = e; legal = k; follows = element-ends other other.close more z m })).1

-- where the text of a document has a tree, the kids of its root meet well
pub kids-meet : (before : Nodes) (root : Tag) (kids after : Nodes) (tree : Nodes) → IsStretchOrNone BeforeRoot before → IsReadTag [] root → ClosesBy root.close kids → AreRead (scope_in root.tail []) kids
    → IsStretchOrNone AfterRoot after → IsReading (text (before ⊕ element root kids after)) tree → meet_well kids ≡ true
kids-meet before root kids after tree is_before is_root closed read is_after reading =
    let d = reading.document in
    let b = has_bytes BeforeRoot before is_before in
    let a = has_bytes AfterRoot after is_after in
    let s = has_bytes BeforeRoot d.before d.is_before in
    let z = has_bytes AfterRoot d.after d.is_after in
    let own : text (before ⊕ element root kids after) ≡ b.bytes_of ++ element_then root root.close kids a.bytes_of =
    ap (λ (x : Nodes). text (x ⊕ element root kids after)) b.is ∙ ap (λ (x : Nodes). text (bytes_or_none b.bytes_of ⊕ element root kids x)) a.is
    ∙ whole_then b.bytes_of a.bytes_of (element root kids no_nodes) in
    let its : text tree ≡ s.bytes_of ++ element_then d.root d.root.close d.kids z.bytes_of =
    ap text d.whole ∙ ap (λ (x : Nodes). text (x ⊕ element d.root d.kids d.after)) s.is ∙ ap (λ (x : Nodes). text (bytes_or_none s.bytes_of ⊕ element d.root d.kids x)) z.is
    ∙ whole_then s.bytes_of z.bytes_of (element d.root d.kids no_nodes) in
    let same = roots-one root d.root kids d.kids b.bytes_of s.bytes_of a.bytes_of z.bytes_of is_root.name is_root.scoped.tail d.is_root.0.name d.is_root.0.tail b.legal s.legal
    (sym own ∙ sym reading.text ∙ its) in
    let inside : (u v : List ℕ) → tree_then kids (60 ∷ 47 ∷ u) ≡ tree_then d.kids (60 ∷ 47 ∷ v) → AsOne kids u v = λ u v same.
    let it = as-tree (scope_in root.tail []) (scope_in d.root.tail []) kids d.kids u v read d.is_root.2 same in record { well = it.well; behind = it.behind } in
    (elements-one root d.root kids d.kids root.close d.root.close a.bytes_of z.bytes_of is_root.name is_root.scoped.tail closed d.is_root.0.name d.is_root.0.tail d.is_root.1 inside same).well
