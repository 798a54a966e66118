-- Laws of the parts of a package.
use Rattle.std.proofs.Common.{Bor, ◌≡◌, ◌≤◌, ◌<◌, ◌+◌, ℕ, zero, suc, List, [], ◌∷◌, ◌++◌, length, Option, Some, None, Bool, true, false, refl, sym, ap, ◌∙◌, arith, append_assoc, slice_get, option_map, option_and_then, length-append, cond, codes, not, if◌then◌else◌, get_or, drop, add-one, subst, IfSome}
use Rattle.redl_tree.specs.Model.Nodes.{Nodes, no_nodes, bytes, element, Item, bytes_item, element_item, idle_item, in_front, items_of, ◌⊕◌}
use Rattle.redl_tree.specs.Model.IdleTexts.{idle_nodes}
use Rattle.redl_tree.specs.Model.Count.{count}
use Rattle.redl_tree.specs.Model.View.{item_of, nodes_of, tag_of, kids_of}
use Rattle.redl_tree.specs.declared.node.Node.{Node}
use Rattle.redl_tree.specs.declared.node.Node as node
use Rattle.redl_tree.specs.declared.node.Elem.{Elem}
use Rattle.redl_tree.proofs.Model.Laws.{item_of-Elem, item_of-Bytes, nodes_here}
use Rattle.std.specs.List.{list_all, list_any}
use Rattle.std.specs.Str.{IsUtf8}
use Rattle.redl_reading.specs.Steps.{◌>>=◌, Gives}
use Rattle.redl_opc.specs.Elements.{Element, element_in, elements_of, only, only_element}
use Rattle.redl_tree.specs.Decisions.Packages.{named_pkg}
use Rattle.redl_opc.specs.Shape.{is_part, is_document, package_in, package_of, parts_of, elements_in, story_of, refusal_of, refusal}
use Rattle.redl_opc.specs.declared.error.OpcError.TheVariants.{PartShape, NoDocument}
use Rattle.redl_opc.specs.Parts.{name_in, part_name, story, places_from, places_in, places_of}
use Rattle.redl_tree.specs.Model.Tree.{HasUtf8Tails}

-- ---- parts and their places

pub length-places_from : (at : ℕ) (ns : Nodes) → length (places_from at ns) ≡ length (elements_of ns)
length-places_from at no_nodes = refl
length-places_from at (bytes b rest) = length-places_from (suc at) rest
length-places_from at (element tag kids rest) = ap suc (length-places_from (suc at) rest)

-- the name of a part is that in the list
pub name-places_from : (at : ℕ) (ns : Nodes) (k : ℕ)
    → option_map (λ part. name_in part.tag) (slice_get (elements_of ns) k) ≡ option_map (λ place. place.1) (slice_get (places_from at ns) k)
name-places_from at no_nodes k = refl
name-places_from at (bytes b rest) k = name-places_from (suc at) rest k
name-places_from at (element tag kids rest) zero = refl
name-places_from at (element tag kids rest) (suc k) = name-places_from (suc at) rest k

abbrev at_place : List Item → ℕ × List ℕ → Option Element
at_place items place = element_in (slice_get items place.0)

get-behind : (before : List Item) (x : Item) (more : List Item) → slice_get (before ++ x ∷ more) (length before) ≡ Some x
get-behind [] x more = refl
get-behind (y ∷ before) x more = get-behind before x more

further : (before : List Item) (x : Item) (rest : Nodes) (k : ℕ)
    → slice_get (elements_of rest) k ≡ option_and_then (at_place ((before ++ x ∷ []) ++ items_of rest)) (slice_get (places_from (length (before ++ x ∷ [])) rest) k)
    → slice_get (elements_of rest) k ≡ option_and_then (at_place (before ++ x ∷ items_of rest)) (slice_get (places_from (suc (length before)) rest) k)
further before x rest k h =
    let longer : length (before ++ x ∷ []) ≡ suc (length before) = simp length-append (omega arith) in
    rw (append_assoc before (x ∷ []) (items_of rest), longer) at h

-- the part is the element at its place
element-behind : (before : List Item) (ns : Nodes) (k : ℕ)
    → slice_get (elements_of ns) k ≡ option_and_then (at_place (before ++ items_of ns)) (slice_get (places_from (length before) ns) k)
element-behind before no_nodes k = refl
element-behind before (bytes b rest) k = further before (bytes_item b) rest k (element-behind (before ++ bytes_item b ∷ []) rest k)
element-behind before (element tag kids rest) zero = ap element_in (sym (get-behind before (element_item tag kids) (items_of rest)))
element-behind before (element tag kids rest) (suc k) =
    further before (element_item tag kids) rest k (element-behind (before ++ element_item tag kids ∷ []) rest k)

pub element-places_from : (ns : Nodes) (k : ℕ)
    → slice_get (elements_of ns) k ≡ option_and_then (at_place (items_of ns)) (slice_get (places_from 0 ns) k)
element-places_from ns k = element-behind [] ns k

-- ---- the kids of the root

pub length-elements_of : (ns : Nodes) → length (elements_of ns) ≤ count ns
length-elements_of no_nodes = omega arith
length-elements_of (bytes b rest) = omega (arith, length-elements_of rest)
length-elements_of (element tag kids rest) = omega (arith, length-elements_of rest)

pub count-first : (ns : Nodes) (e : Element) (more : List Element) → elements_of ns ≡ e ∷ more → count e.kids ≤ count ns
count-first no_nodes e more h = absurd cc
count-first (bytes b rest) e more h = omega (arith, count-first rest e more h)
count-first (element tag kids rest) e more h =
    let same : kids ≡ e.kids = cc in
    rw (← same) (omega arith)

pub tails-first : (ns : Nodes) (e : Element) (more : List Element) → elements_of ns ≡ e ∷ more → HasUtf8Tails ns → HasUtf8Tails e.kids
tails-first no_nodes e more h tails = absurd cc
tails-first (bytes b rest) e more h tails = tails-first rest e more h tails
tails-first (element tag kids rest) e more h tails =
    let same : kids ≡ e.kids = cc in
    rw same at tails.1

pub only_is : (xs : List Element) (e : Element) → only xs ≡ Some e → xs ≡ e ∷ []
only_is [] e h = absurd cc
only_is (x ∷ []) e h = cc
only_is (x ∷ y ∷ more) e h = absurd cc

by_name : (is_package : Bool) (root e : Element) → cond is_package (Some root) None ≡ Some e → Some root ≡ Some e
by_name true root e h = h
by_name false root e h = absurd cc

package_is : (o : Option Element) (e : Element) → package_in o ≡ Some e → o ≡ Some e
package_is None e h = absurd cc
package_is (Some root) e h = by_name (named_pkg (codes "package") root.tag) root e h

pub root_is : (ns : Nodes) (root : Element) → package_of ns ≡ Some root → elements_of ns ≡ root ∷ []
root_is ns root h = only_is (elements_of ns) root (package_is (only_element ns) root h)

pub count-root : (ns : Nodes) (root : Element) → package_of ns ≡ Some root → count root.kids ≤ count ns
count-root ns root h = count-first ns root [] (root_is ns root h)

pub tails-root : (ns : Nodes) (root : Element) → package_of ns ≡ Some root → HasUtf8Tails ns → HasUtf8Tails root.kids
tails-root ns root h = tails-first ns root [] (root_is ns root h)

length-places_in : (o : Option Element) → length (places_in o) ≡ length (elements_in o)
length-places_in None = refl
length-places_in (Some root) = length-places_from 0 root.kids

pub length-places_of : (ns : Nodes) → length (places_of ns) ≡ length (parts_of ns)
length-places_of ns = length-places_in (package_of ns)

few-places_in : (ns : Nodes) (o : Option Element) → package_of ns ≡ o → length (places_in o) ≤ count ns
few-places_in ns None h = omega arith
few-places_in ns (Some root) h = omega (arith, length-places_from 0 root.kids, length-elements_of root.kids, count-root ns root h)

-- there are no more parts than nodes
pub few-places_of : (ns : Nodes) → length (places_of ns) ≤ count ns
few-places_of ns = few-places_in ns (package_of ns) refl

name-places_in : (o : Option Element) (k : ℕ)
    → option_map (λ part. name_in part.tag) (slice_get (elements_in o) k) ≡ option_map (λ place. place.1) (slice_get (places_in o) k)
name-places_in None k = refl
name-places_in (Some root) k = name-places_from 0 root.kids k

pub name-places_of : (ns : Nodes) (k : ℕ) → part_name ns k ≡ option_map (λ place. place.1) (slice_get (places_of ns) k)
name-places_of ns k = name-places_in (package_of ns) k

-- the root of a package has no elements but parts
pub all_parts : (ns : Nodes) (root : Element) → refusal ns ≡ None → package_of ns ≡ Some root → list_all is_part (elements_of root.kids) ≡ true
all_parts ns root shape is = by (list_all is_part (elements_of root.kids)) refl (sym (ap refusal_of is) ∙ shape) where
  by : (b : Bool) → list_all is_part (elements_of root.kids) ≡ b
      → (if not b then Some PartShape else if not (list_any is_document (elements_of root.kids)) then Some NoDocument else None) ≡ None → b ≡ true
  by true e h = refl
  by false e h = absurd cc

-- ---- one node among the kids of the root

pub tails-element : (nodes : List Node) (i : ℕ) (x : Node) (e : Elem) → i < length nodes → x ≡ get_or nodes i x → x ≡ node.Elem e
    → HasUtf8Tails (nodes_of (drop i nodes)) → IsUtf8 (tag_of e).tail
tails-element nodes i x e within is elem tails =
    let here : nodes_of (drop i nodes) ≡ element (tag_of e) (kids_of e) (nodes_of (drop (i + 1) nodes)) =
    nodes_here nodes i x within is ∙ ap (λ y. in_front y (nodes_of (drop (i + 1) nodes))) (ap item_of elem ∙ item_of-Elem e) in
    let all = subst HasUtf8Tails here tails in
    all.0

tails-behind : (x rest : Nodes) → HasUtf8Tails (x ⊕ rest) → HasUtf8Tails rest
tails-behind no_nodes rest tails = tails
tails-behind (bytes b more) rest tails = tails-behind more rest tails
tails-behind (element tag kids more) rest tails = tails-behind more rest tails.2

tails-item : (x : Item) (rest : Nodes) → HasUtf8Tails (in_front x rest) → HasUtf8Tails rest
tails-item (bytes_item b) rest tails = tails
tails-item (element_item tag kids) rest tails = tails.2
tails-item (idle_item t) rest tails = tails-behind (idle_nodes t) rest tails

pub tails-more : (nodes : List Node) (i : ℕ) (x : Node) → i < length nodes → x ≡ get_or nodes i x
    → HasUtf8Tails (nodes_of (drop i nodes)) → HasUtf8Tails (nodes_of (drop (i + 1) nodes))
tails-more nodes i x within is tails =
    tails-item (item_of x) (nodes_of (drop (i + 1) nodes)) (subst HasUtf8Tails (nodes_here nodes i x within is) tails)

pub places-element : (nodes : List Node) (i : ℕ) (x : Node) (e : Elem) → i < length nodes → x ≡ get_or nodes i x → x ≡ node.Elem e
    → places_from i (nodes_of (drop i nodes)) ≡ (i, name_in (tag_of e)) ∷ places_from (i + 1) (nodes_of (drop (i + 1) nodes))
places-element nodes i x e within is elem =
    let here : nodes_of (drop i nodes) ≡ element (tag_of e) (kids_of e) (nodes_of (drop (i + 1) nodes)) =
    nodes_here nodes i x within is ∙ ap (λ y. in_front y (nodes_of (drop (i + 1) nodes))) (ap item_of elem ∙ item_of-Elem e) in
    rw here (rw add-one refl)

pub places-bytes : (nodes : List Node) (i : ℕ) (x : Node) (b : Bor (List ℕ)) → i < length nodes → x ≡ get_or nodes i x → x ≡ node.Bytes b
    → places_from i (nodes_of (drop i nodes)) ≡ places_from (i + 1) (nodes_of (drop (i + 1) nodes))
places-bytes nodes i x b within is text =
    let here : nodes_of (drop i nodes) ≡ bytes b.now (nodes_of (drop (i + 1) nodes)) =
    nodes_here nodes i x within is ∙ ap (λ y. in_front y (nodes_of (drop (i + 1) nodes))) (ap item_of text ∙ item_of-Bytes b) in
    rw here (rw add-one refl)

pub parts-more : (done : List (ℕ × List ℕ)) (here : ℕ × List ℕ) (left more whole : List (ℕ × List ℕ)) → left ≡ here ∷ more → done ++ left ≡ whole
    → (done ++ here ∷ []) ++ more ≡ whole
parts-more done here left more whole e h = append_assoc done (here ∷ []) more ∙ ap (λ l. done ++ l) (sym e) ∙ h

-- ---- a story by the place of its part

abbrev pub story_at : Option Element → Option (ℕ × List ℕ) → Option Element
story_at root place = place >>= (λ p. root >>= (λ r. element_in (slice_get (items_of r.kids) p.0) >>= story_of))

story-element : (part : Option Element) → option_and_then story_of part ≡ (part >>= story_of)
story-element None = refl
story-element (Some part) = refl

story-place : (root : Element) (place : Option (ℕ × List ℕ))
    → option_and_then story_of (option_and_then (at_place (items_of root.kids)) place) ≡ story_at (Some root) place
story-place root None = refl
story-place root (Some place) = story-element (element_in (slice_get (items_of root.kids) place.0))

story-places_in : (root : Option Element) (k : ℕ) → option_and_then story_of (slice_get (elements_in root) k) ≡ story_at root (slice_get (places_in root) k)
story-places_in None k = refl
story-places_in (Some root) k = ap (option_and_then story_of) (element-places_from root.kids k) ∙ story-place root (slice_get (places_from 0 root.kids) k)

-- the story of a part, by the list of places
pub story-places_of : (ns : Nodes) (k : ℕ) → story ns k ≡ story_at (package_of ns) (slice_get (places_of ns) k)
story-places_of ns k = story-places_in (package_of ns) k

-- ---- what the code answers

pub gives_none : {X Y : Type 0} (view : X → Y) (r : Option X) (read : Option Y) → r ≡ None → read ≡ None → Gives view r read
gives_none view r read e h = rw e h

-- what holds of what is read holds of what is given
pub gives-some : {X Y : Type 0} (view : X → Y) (P : Y → Type 0) (r : Option X) (read : Option Y) → Gives view r read → ((y : Y) → read ≡ Some y → P y)
    → IfSome r (λ x. P (view x))
gives-some view P None read given each = tt
gives-some view P (Some x) read given each = each (view x) given

-- the name of a part, by the list that a package keeps
pub name-listed : (ns now : Nodes) (listed : List (ℕ × List ℕ)) (k : ℕ) (place : Option (ℕ × List ℕ)) → ns ≡ now → listed ≡ places_of ns → slice_get listed k ≡ place
    → part_name now k ≡ option_map (λ place. place.1) place
name-listed ns now listed k place same kept e =
    rw (← same, name-places_of ns k, ← kept, e)

-- the root of a story, by the same list
pub story-listed : (ns now : Nodes) (listed : List (ℕ × List ℕ)) (k : ℕ) (place : Option (ℕ × List ℕ)) → ns ≡ now → listed ≡ places_of ns → slice_get listed k ≡ place
    → story now k ≡ story_at (package_of ns) place
story-listed ns now listed k place same kept e =
    rw (← same, story-places_of ns k, ← kept, e)

pub story-part : (ns now : Nodes) (listed : List (ℕ × List ℕ)) (k : ℕ) (place : ℕ × List ℕ) (root : Element) (part : Option Element)
    → ns ≡ now → listed ≡ places_of ns → slice_get listed k ≡ Some place → package_of ns ≡ Some root → element_in (slice_get (items_of root.kids) place.0) ≡ part
    → story now k ≡ (part >>= story_of)
story-part ns now listed k place root part same kept at_k is_root is_part =
    story-listed ns now listed k (Some place) same kept at_k ∙ rw (is_root, is_part) refl
