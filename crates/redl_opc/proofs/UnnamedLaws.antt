-- Idle elements are nothing that a package is told by: no package, no part, no data and no root of a story.
use Rattle.std.proofs.Common.{Bor, ◌≡◌, ◌∙◌, ◌<◌, ◌+◌, ℕ, length, get_or, drop, List, [], ◌∷◌, ◌++◌, Option, Some, None, Bool, true, false, true≢false, ◌&&◌, ◌||◌, not, is_some, if◌then◌else◌, codes, bytes_eq, refl, sym, ap, subst, IfSome, IsNone}
use Rattle.std.specs.List.{list_all, list_any}
use Rattle.std.specs.Cmp.{second_so}
use Rattle.redl_tree.specs.Model.Kids.{has_element}
use Rattle.redl_tree.specs.Model.Nodes.{Tag, Nodes, no_nodes, bytes, element, Item, bytes_item, element_item, idle_item, in_front, from_items, items_of, ◌⊕◌}
use Rattle.redl_tree.specs.Model.IdleTexts.{idle_nodes}
use Rattle.redl_tree.specs.Roles.Names.{is, is_w}
use Rattle.redl_tree.specs.Roles.Idle.{is_idle_in}
use Rattle.redl_tree.specs.Decisions.Packages.{is_pkg, named_pkg}
use Rattle.redl_tree.specs.declared.kinds.Space.{Space}
use Rattle.redl_tree.specs.declared.kinds.Space.TheVariants.{W, M, Pkg, Other}
use Rattle.redl_tree.specs.Model.View.{item_of, nodes_of}
use Rattle.redl_tree.specs.declared.node.Node.{Node}
use Rattle.redl_tree.specs.declared.node.Elem.{Elem}
use Rattle.redl_tree.specs.declared.node.Node as node
use Rattle.redl_tree.proofs.Model.Laws.{in_front-⊕, item_of-Elem, item_of-Bytes, item_of-Plain, nodes_here}
use Rattle.redl_tree.proofs.Idle.Items.{nodes_are_idle, element_among}
use Rattle.redl_tree.proofs.Idle.Lists.{names_none}
use Rattle.redl_tree.proofs.Idle.Tags.{idle_parts}
use Rattle.redl_reading.specs.Steps.{Gives}
use Rattle.redl_opc.specs.Elements.{Element, element_of, element_in, elements_of, only, only_element}
use Rattle.redl_opc.specs.Inside.Unnamed.{IsUnnamed, foremost}
use Rattle.redl_opc.specs.Shape.{has_attribute, is_data_alone, is_part, root_in, story_root, story_of, is_document, is_document_root, package_in}

-- ---- an element of W that is no root of a story

not_pkg : (space : Space) → is_w space ≡ true → is_pkg space ≡ false
not_pkg W h = refl
not_pkg M h = absurd (true≢false (sym h))
not_pkg Pkg h = absurd (true≢false (sym h))
not_pkg Other h = absurd (true≢false (sym h))

other_name : (name : List ℕ) (tag : Tag) → is_w tag.space ≡ true → named_pkg name tag ≡ false
other_name name tag w = ap (λ b. b && bytes_eq tag.local name) (not_pkg tag.space w)

pub no_package : (o : Option Element) → IsUnnamed o → package_in o ≡ None
no_package None h = refl
no_package (Some e) h = ap (λ b. if b then Some e else None) (other_name (codes "package") e.tag h.0)

pub no_data : (o : Option Element) → IsUnnamed o → is_data_alone o ≡ false
no_data None h = refl
no_data (Some e) h =
    ap (λ b. b || (named_pkg (codes "xmlData") e.tag && is_some (only_element e.kids))) (other_name (codes "binaryData") e.tag h.0)
    ∙ ap (λ b. b && is_some (only_element e.kids)) (other_name (codes "xmlData") e.tag h.0)

pub no_root_in : (o : Option Element) → IsUnnamed o → root_in o ≡ None
no_root_in None h = refl
no_root_in (Some e) h = ap (λ b. if b then only_element e.kids else None) (other_name (codes "xmlData") e.tag h.0)

pub no_story : (o : Option Element) → IsUnnamed o → story_root o ≡ None
no_story None h = refl
no_story (Some e) h = ap (λ b. if b then Some e else None) h.1

no_part : (e : Element) → is_w e.tag.space ≡ true → is_part e ≡ false
no_part e w = ap (λ b. b && has_attribute (codes "name") e.tag && has_attribute (codes "contentType") e.tag && is_data_alone (only_element e.kids)) (other_name (codes "part") e.tag w)

-- ---- idle elements are such elements

pub unnamed_first : (in_run : Bool) (x y : Nodes) → is_idle_in in_run x ≡ true → has_element x ≡ true → IsUnnamed (foremost (elements_of (x ⊕ y)))
unnamed_first in_run no_nodes y h some = absurd (true≢false (sym some))
unnamed_first in_run (bytes b rest) y h some = unnamed_first in_run rest y h some
unnamed_first in_run (element tag kids rest) y h some =
    let p = idle_parts in_run tag kids rest h in
    (p.own.space, names_none ("document" ∷ "hdr" ∷ "ftr" ∷ "footnotes" ∷ "endnotes" ∷ "comments" ∷ []) in_run refl tag p.own)

pub unnamed_only : (es : List Element) → IsUnnamed (foremost es) → IsUnnamed (only es)
unnamed_only [] h = tt
unnamed_only (e ∷ []) h = h
unnamed_only (e ∷ f ∷ more) h = tt

-- the only one of idle elements
only_idle : (in_run : Bool) (x : Nodes) → is_idle_in in_run x ≡ true → IsUnnamed (foremost (elements_of x))
only_idle in_run no_nodes h = tt
only_idle in_run (bytes b rest) h = only_idle in_run rest h
only_idle in_run (element tag kids rest) h =
    let p = idle_parts in_run tag kids rest h in
    (p.own.space, names_none ("document" ∷ "hdr" ∷ "ftr" ∷ "footnotes" ∷ "endnotes" ∷ "comments" ∷ []) in_run refl tag p.own)

-- where idle elements come first, not all are parts
pub no_parts : (t : List ℕ) (rest : Nodes) → list_all is_part (elements_of (idle_nodes t ⊕ rest)) ≡ false
no_parts t rest = by (idle_nodes t) (nodes_are_idle t) (element_among t) where
  by : (x : Nodes) → is_idle_in false x ≡ true → has_element x ≡ true → list_all is_part (elements_of (x ⊕ rest)) ≡ false
  by no_nodes h some = absurd (true≢false (sym some))
  by (bytes b more) h some = by more h some
  by (element tag kids more) h some =
      ap (λ b. b && list_all is_part (elements_of (more ⊕ rest))) (no_part (record { tag = tag; kids = kids }) (idle_parts false tag kids more h).own.space)

-- what idle elements are in is no story
pub no_story_inside : (in_run : Bool) (tag : Tag) (kids : Nodes) → is_idle_in in_run kids ≡ true → story_of (record { tag = tag; kids = kids }) ≡ None
no_story_inside in_run tag kids h = ap story_root (no_root_in (only_element kids) (unnamed_only (elements_of kids) (only_idle in_run kids h)))

-- and none of them is a document
pub document_past : (x y : Nodes) → is_idle_in false x ≡ true → list_any is_document (elements_of (x ⊕ y)) ≡ list_any is_document (elements_of y)
document_past no_nodes y h = refl
document_past (bytes b rest) y h = document_past rest y h
document_past (element tag kids rest) y h =
    let p = idle_parts false tag kids rest h in
    ap (λ o. is_document_root o || list_any is_document (elements_of (rest ⊕ y))) (no_story_inside (is "r" tag) tag kids p.below)
    ∙ document_past rest y p.later

-- ---- nodes that are all parts are kept each by itself

pub items_of-parts : (xs : List Item) → list_all is_part (elements_of (from_items xs)) ≡ true → items_of (from_items xs) ≡ xs
items_of-parts [] h = refl
items_of-parts (bytes_item b ∷ xs) h = ap (λ (ys : List Item). bytes_item b ∷ ys) (items_of-parts xs h)
items_of-parts (element_item tag kids ∷ xs) h =
    ap (λ (ys : List Item). element_item tag kids ∷ ys) (items_of-parts xs (second_so (is_part (record { tag = tag; kids = kids })) (list_all is_part (elements_of (from_items xs))) h))
items_of-parts (idle_item t ∷ xs) h = absurd (true≢false (sym h ∙ no_parts t (from_items xs)))

-- of nodes that begin with an element or with bytes
pub elements-elem : (nodes : List Node) (i : ℕ) (x : Node) (e : Elem) → i < length nodes → x ≡ get_or nodes i x → x ≡ node.Elem e
    → elements_of (nodes_of (drop i nodes)) ≡ element_of e ∷ elements_of (nodes_of (drop (i + 1) nodes))
elements-elem nodes i x e within is elem =
    ap elements_of (nodes_here nodes i x within is ∙ ap (λ y. in_front y (nodes_of (drop (i + 1) nodes))) (ap item_of elem ∙ item_of-Elem e))

-- bytes are no element
pub elements-bytes : (nodes : List Node) (i : ℕ) (x : Node) (b : Bor (List ℕ)) → i < length nodes → x ≡ get_or nodes i x → x ≡ node.Bytes b
    → elements_of (nodes_of (drop i nodes)) ≡ elements_of (nodes_of (drop (i + 1) nodes))
elements-bytes nodes i x b within is text =
    ap elements_of (nodes_here nodes i x within is ∙ ap (λ y. in_front y (nodes_of (drop (i + 1) nodes))) (ap item_of text ∙ item_of-Bytes b))

parts-item : (x : Item) (rest : Nodes) → list_all is_part (elements_of (in_front x rest)) ≡ true → list_all is_part (elements_of rest) ≡ true
parts-item (bytes_item b) rest h = h
parts-item (element_item tag kids) rest h = second_so (is_part (record { tag = tag; kids = kids })) (list_all is_part (elements_of rest)) h
parts-item (idle_item t) rest h = absurd (true≢false (sym h ∙ no_parts t rest))

-- where all elements from a place on are parts, so are those behind it
pub parts-more : (nodes : List Node) (i : ℕ) (x : Node) → i < length nodes → x ≡ get_or nodes i x → list_all is_part (elements_of (nodes_of (drop i nodes))) ≡ true
    → list_all is_part (elements_of (nodes_of (drop (i + 1) nodes))) ≡ true
parts-more nodes i x within is all =
    parts-item (item_of x) (nodes_of (drop (i + 1) nodes)) (sym (ap (λ ns. list_all is_part (elements_of ns)) (nodes_here nodes i x within is)) ∙ all)

-- nodes that begin with a text are not all parts
pub parts-text : (nodes : List Node) (i : ℕ) (x : Node) (t : List ℕ) → i < length nodes → x ≡ get_or nodes i x → x ≡ node.Plain t
    → list_all is_part (elements_of (nodes_of (drop i nodes))) ≡ false
parts-text nodes i x t within is text =
    ap (λ ns. list_all is_part (elements_of ns)) (nodes_here nodes i x within is ∙ ap (λ y. in_front y (nodes_of (drop (i + 1) nodes))) (ap item_of text ∙ item_of-Plain t))
    ∙ no_parts t (nodes_of (drop (i + 1) nodes))

-- and it holds no document
pub document-text : (nodes : List Node) (i : ℕ) (x : Node) (t : List ℕ) → i < length nodes → x ≡ get_or nodes i x → x ≡ node.Plain t
    → list_any is_document (elements_of (nodes_of (drop i nodes))) ≡ list_any is_document (elements_of (nodes_of (drop (i + 1) nodes)))
document-text nodes i x t within is text =
    ap (λ ns. list_any is_document (elements_of ns)) (nodes_here nodes i x within is ∙ ap (λ y. in_front y (nodes_of (drop (i + 1) nodes))) (ap item_of text ∙ item_of-Plain t))
    ∙ document_past (idle_nodes t) (nodes_of (drop (i + 1) nodes)) (nodes_are_idle t)

-- ---- one element alone

elements-⊕ : (x y : Nodes) → elements_of (x ⊕ y) ≡ elements_of x ++ elements_of y
elements-⊕ no_nodes y = refl
elements-⊕ (bytes b rest) y = elements-⊕ rest y
elements-⊕ (element tag kids rest) y = ap (λ es. record { tag = tag; kids = kids } ∷ es) (elements-⊕ rest y)

elements-in_front : (x : Item) (rest : Nodes) → elements_of (in_front x rest) ≡ elements_of (in_front x no_nodes) ++ elements_of rest
elements-in_front x rest = ap elements_of (sym (in_front-⊕ x no_nodes rest)) ∙ elements-⊕ (in_front x no_nodes) rest

-- whether there is an element, by their list
is_there : List Element → Bool
is_there [] = false
is_there (e ∷ es) = true

has-list : (ns : Nodes) → has_element ns ≡ is_there (elements_of ns)
unfolding is_there
has-list no_nodes = refl
has-list (bytes b rest) = has-list rest
has-list (element tag kids rest) = refl

only-both : (xs ys : List Element) → is_there xs ≡ true → only (xs ++ ys) ≡ (if is_there ys then None else only xs)
unfolding is_there
only-both [] ys h = absurd (true≢false (sym h))
only-both (x ∷ []) [] h = refl
only-both (x ∷ []) (y ∷ ys) h = refl
only-both (x ∷ z ∷ xs) [] h = refl
only-both (x ∷ z ∷ xs) (y ∷ ys) h = refl

-- the only element, where the first node with one comes first
pub only-first : (ns : Nodes) (x : Item) (rest : Nodes) → elements_of ns ≡ elements_of (in_front x rest) → has_element (in_front x no_nodes) ≡ true
    → only_element ns ≡ (if has_element rest then None else only_element (in_front x no_nodes))
only-first ns x rest same some =
    ap only (same ∙ elements-in_front x rest)
    ∙ only-both (elements_of (in_front x no_nodes)) (elements_of rest) (sym (has-list (in_front x no_nodes)) ∙ some)
    ∙ ap (λ b. if b then None else only_element (in_front x no_nodes)) (sym (has-list rest))

pub one-first : (later one : Bool) (o : Option Element) → is_some o ≡ one → is_some (let none : Option Element = None in if later then none else o) ≡ (one && not later)
one-first true true o h = refl
one-first true false o h = refl
one-first false true o h = h
one-first false false o h = h

-- ---- what the code tells of the only element

pub none_there : (ns : Nodes) → elements_of ns ≡ [] → IsUnnamed (only_element ns)
none_there ns h = subst IsUnnamed (sym (ap only h)) tt

pub several : (ns : Nodes) (x : Item) (rest : Nodes) → elements_of ns ≡ elements_of (in_front x rest) → has_element (in_front x no_nodes) ≡ true
    → has_element rest ≡ true → IsUnnamed (only_element ns)
several ns x rest same some more =
    subst IsUnnamed (sym (only-first ns x rest same some ∙ ap (λ b. if b then None else only_element (in_front x no_nodes)) more)) tt

pub only-one : (ns : Nodes) (x : Item) (rest : Nodes) → elements_of ns ≡ elements_of (in_front x rest) → has_element (in_front x no_nodes) ≡ true
    → has_element rest ≡ false → only_element ns ≡ only_element (in_front x no_nodes)
only-one ns x rest same some none =
    only-first ns x rest same some ∙ ap (λ b. if b then None else only_element (in_front x no_nodes)) none

element_is : (x : Item) (e : Element) → element_in (Some x) ≡ Some e → only_element (in_front x no_nodes) ≡ Some e
element_is (bytes_item b) e h = absurd cc
element_is (element_item tag kids) e h = h
element_is (idle_item t) e h = absurd cc

kept_as_text : (x : Item) → has_element (in_front x no_nodes) ≡ true → element_in (Some x) ≡ None → IsUnnamed (only_element (in_front x no_nodes))
kept_as_text (bytes_item b) some h = absurd (true≢false (sym some))
kept_as_text (element_item tag kids) some h = absurd cc
kept_as_text (idle_item t) some h =
    unnamed_only (elements_of (idle_nodes t ⊕ no_nodes)) (unnamed_first false (idle_nodes t) no_nodes (nodes_are_idle t) (element_among t))

pub told_one : {X : Type 0} (view : X → Element) (r : Option X) (x : Item) (o : Option Element) → Gives view r (element_in (Some x)) → o ≡ only_element (in_front x no_nodes)
    → IfSome r (λ y. o ≡ Some (view y))
told_one view None x o given h = tt
told_one view (Some y) x o given h = h ∙ element_is x (view y) given

pub told_none : {X : Type 0} (view : X → Element) (r : Option X) (x : Item) (o : Option Element) → Gives view r (element_in (Some x)) → o ≡ only_element (in_front x no_nodes)
    → has_element (in_front x no_nodes) ≡ true → IsNone r → IsUnnamed o
told_none view None x o given h some is = subst IsUnnamed (sym h) (kept_as_text x some given)
told_none view (Some y) x o given h some is = absurd (true≢false is)
