-- Steps of a split from the left.
use Rattle.std.proofs.Common.{◌≡◌, ◌≤◌, ◌+◌, ℕ, List, [], ◌∷◌, ◌++◌, Bool, true, false, Vec, Global, Option, None, Some, refl, sym, ap, ◌∙◌, arith, if◌then◌else◌}
use Rattle.redl_tree.specs.Model.Nodes.{Tag, Nodes, no_nodes, bytes, element, Item, bytes_item, element_item, idle_item, in_front, ◌⊕◌}
use Rattle.redl_tree.specs.Model.IdleTexts.{idle_nodes}
use Rattle.redl_tree.specs.Model.Count.{count}
use Rattle.redl_laid.specs.Firsts.{first_item}
use Rattle.redl_laid.specs.declared.laid.First.{First}
use Rattle.redl_laid.specs.declared.laid.First.TheVariants.{Bytes, Elem}
use Rattle.redl_tree.specs.Model.View.{nodes_of, item_of}
use Rattle.redl_tree.specs.Revisions.Markers.{is_own}
use Rattle.redl_tree.specs.Leaves.Containers.{opens}
use Rattle.redl_tree.specs.Leaves.Living.{holds_own_of_ancestor, owned}
use Rattle.redl_tree.specs.Leaves.Rebuilt.{original}
use Rattle.redl_tree.specs.Leaves.Slots.{Slots, no_slots, leaf_slot, container_slot, Sibling, thick_sibling, open_sibling, leaf_of, siblings, slots_in, slots_from}
use Rattle.redl_tree.specs.Leaves.States.{States, no_states, leaf_state, container_state, fresh_states, fresh_tally}
use Rattle.redl_tree.specs.Leaves.Waiting.{lone_slots, slots_left}
use Rattle.redl_tree.proofs.Model.Laws.{count-⊕, ⊕-no_nodes, ⊕_assoc, in_front-⊕, item_of-Plain}
use Rattle.redl_tree.proofs.Idle.Items.{nodes_are_idle}
use Rattle.redl_leaves.proofs.OpenLaws.{thin_past}
use Rattle.redl_laws.proofs.Leaves.Originals.{original-slots}
use Rattle.redl_laws.proofs.Leaves.Waiting.{thin-waits, bytes-one, element-one}
use Rattle.redl_tree.specs.declared.node.Node.{Node}
use Rattle.redl_tree.specs.declared.node.Node as node
use Rattle.redl_leaves.specs.Inside.Splits.{chain_of, lone_states, ended, thin_siblings, item_siblings, share_at, owned_at}
use Rattle.redl_leaves.specs.Spots.{spot_of, opens_at}
use Rattle.redl_leaves.specs.View.{SlotView, leaf_view, container_view, before}
use Rattle.redl_leaves.specs.declared.spot.Spot.{Spot}

-- ---- leaves of one node

lone-⊕ : (among_blocks : Bool) (xs ys : Nodes) (rest : States) → lone_states among_blocks (xs ⊕ ys) rest ≡ lone_states among_blocks xs (lone_states among_blocks ys rest)
lone-⊕ among_blocks no_nodes ys rest = refl
lone-⊕ among_blocks (bytes b more) ys rest = ap (leaf_state (leaf_of among_blocks false (bytes b no_nodes)) (bytes b no_nodes)) (lone-⊕ among_blocks more ys rest)
lone-⊕ among_blocks (element tag kids more) ys rest =
    ap (leaf_state (leaf_of among_blocks false (element tag kids no_nodes)) (element tag kids no_nodes)) (lone-⊕ among_blocks more ys rest)

pub lone-in_front : (among_blocks : Bool) (x : Item) (ys : Nodes) (rest : States)
    → lone_states among_blocks (in_front x ys) rest ≡ lone_states among_blocks (in_front x no_nodes) (lone_states among_blocks ys rest)
lone-in_front among_blocks x ys rest =
    ap (λ ns. lone_states among_blocks ns rest) (sym (in_front-⊕ x no_nodes ys)) ∙ lone-⊕ among_blocks (in_front x no_nodes) ys rest

-- the first node of a text is a leaf by itself
pub lone-step : (among_blocks : Bool) (x : First) (ys : Nodes) (rest : States) → lone_states among_blocks (in_front (first_item x) ys) rest
    ≡ leaf_state (leaf_of among_blocks false (in_front (first_item x) no_nodes)) (in_front (first_item x) no_nodes) (lone_states among_blocks ys rest)
lone-step among_blocks (Bytes b) ys rest = refl
lone-step among_blocks (Elem elem) ys rest = refl

fresh-lone : (ancestors : List Tag) (among_blocks : Bool) (nodes : Nodes) (later : Slots)
    → fresh_states ancestors (lone_slots among_blocks nodes later) ≡ lone_states among_blocks nodes (fresh_states ancestors later)
fresh-lone ancestors among_blocks no_nodes later = refl
fresh-lone ancestors among_blocks (bytes b rest) later =
    ap (leaf_state (leaf_of among_blocks false (bytes b no_nodes)) (bytes b no_nodes)) (fresh-lone ancestors among_blocks rest later)
fresh-lone ancestors among_blocks (element tag kids rest) later =
    ap (leaf_state (leaf_of among_blocks false (element tag kids no_nodes)) (element tag kids no_nodes)) (fresh-lone ancestors among_blocks rest later)

-- thin siblings where no chain waits
pub thin-given : (ancestors : List Tag) (among_blocks : Bool) (nodes : Nodes) (later : List Sibling)
    → lone_states among_blocks nodes (fresh_states ancestors (slots_from among_blocks None later)) ≡ fresh_states ancestors (slots_from among_blocks None (thin_siblings nodes ++ later))
thin-given ancestors among_blocks no_nodes later = refl
thin-given ancestors among_blocks (bytes b rest) later =
    ap (leaf_state (leaf_of among_blocks false (bytes b no_nodes)) (bytes b no_nodes)) (thin-given ancestors among_blocks rest later)
thin-given ancestors among_blocks (element tag kids rest) later =
    ap (leaf_state (leaf_of among_blocks false (element tag kids no_nodes)) (element tag kids no_nodes)) (thin-given ancestors among_blocks rest later)

-- thin nodes wait with a chain
thin-wait : (among_blocks : Bool) (chain tail nodes : Nodes) (later : List Sibling)
    → slots_left among_blocks (Some chain) (tail ⊕ nodes) later ≡ slots_left among_blocks (Some chain) tail (thin_siblings nodes ++ later)
thin-wait among_blocks chain tail no_nodes later = ap (λ ns. slots_left among_blocks (Some chain) ns later) (⊕-no_nodes tail)
thin-wait among_blocks chain tail (bytes b rest) later =
    ap (λ ns. slots_left among_blocks (Some chain) ns later) (sym (⊕_assoc tail (bytes b no_nodes) rest))
    ∙ thin-wait among_blocks chain (tail ⊕ bytes b no_nodes) rest later
    ∙ sym (thin-waits among_blocks chain tail (bytes b no_nodes) (thin_siblings rest ++ later) (bytes-one b))
thin-wait among_blocks chain tail (element tag kids rest) later =
    ap (λ ns. slots_left among_blocks (Some chain) ns later) (sym (⊕_assoc tail (element tag kids no_nodes) rest))
    ∙ thin-wait among_blocks chain (tail ⊕ element tag kids no_nodes) rest later
    ∙ sym (thin-waits among_blocks chain tail (element tag kids no_nodes) (thin_siblings rest ++ later) (element-one tag kids))

pub thin-left : (among_blocks : Bool) (waits : Option (Vec Node Global)) (chain : Vec Node Global) (tail nodes : Nodes) (later : List Sibling) → waits ≡ Some chain
    → slots_left among_blocks (chain_of waits) (tail ⊕ nodes) later ≡ slots_left among_blocks (chain_of waits) tail (thin_siblings nodes ++ later)
thin-left among_blocks waits chain tail nodes later is =
    ap (λ w. slots_left among_blocks (chain_of w) (tail ⊕ nodes) later) is
    ∙ thin-wait among_blocks (nodes_of chain.items) tail nodes later
    ∙ ap (λ w. slots_left among_blocks (chain_of w) tail (thin_siblings nodes ++ later)) (sym is)

-- ---- what ends a chain

pub thick-given : (ancestors : List Tag) (among_blocks : Bool) (chain : Option Nodes) (tail nodes : Nodes) (later : List Sibling)
    → ended among_blocks true chain tail (leaf_state (leaf_of among_blocks false nodes) nodes (fresh_states ancestors (slots_from among_blocks None later)))
    ≡ fresh_states ancestors (slots_left among_blocks chain tail (thick_sibling nodes ∷ later))
thick-given ancestors among_blocks None tail nodes later = refl
thick-given ancestors among_blocks (Some chain) tail nodes later =
    ap (leaf_state (leaf_of among_blocks true chain) chain)
    (sym (fresh-lone ancestors among_blocks tail (leaf_slot (leaf_of among_blocks false nodes) (slots_from among_blocks None later))))

pub open-given : (ancestors : List Tag) (among_blocks : Bool) (chain : Option Nodes) (tail : Nodes) (tag : Tag) (kids : Nodes) (inner : Slots) (later : List Sibling)
    → ended among_blocks true chain tail
    (container_state tag (fresh_tally (owned (tag ∷ ancestors) inner)) (fresh_states (tag ∷ ancestors) inner) (fresh_states ancestors (slots_from among_blocks None later)))
    ≡ fresh_states ancestors (slots_left among_blocks chain tail (open_sibling tag kids inner ∷ later))
open-given ancestors among_blocks None tail tag kids inner later = refl
open-given ancestors among_blocks (Some chain) tail tag kids inner later =
    ap (leaf_state (leaf_of among_blocks true chain) chain)
    (sym (fresh-lone ancestors among_blocks tail (container_slot tag kids inner (slots_from among_blocks None later))))

pub list-given : (ancestors : List Tag) (among_blocks : Bool) (chain : Option Nodes) (tail : Nodes)
    → ended among_blocks false chain tail no_states ≡ fresh_states ancestors (slots_left among_blocks chain tail [])
list-given ancestors among_blocks None tail = refl
list-given ancestors among_blocks (Some chain) tail =
    ap (leaf_state (leaf_of among_blocks false chain) chain) (sym (fresh-lone ancestors among_blocks tail no_slots))

-- what a node is to its siblings
pub siblings-in_front : (ancestors : List Tag) (x : Item) (ys : Nodes) → siblings opens ancestors (in_front x ys) ≡ item_siblings opens ancestors x ++ siblings opens ancestors ys
siblings-in_front ancestors (bytes_item b) ys = refl
siblings-in_front ancestors (element_item tag kids) ys = refl
siblings-in_front ancestors (idle_item t) ys = thin_past ancestors (idle_nodes t) ys (nodes_are_idle t)

-- the same of elements that are kept as text, where they are all
pub idle-thin : (ancestors : List Tag) (n : Node) (t : List ℕ) → n ≡ node.Plain t → thin_siblings (nodes_of (node.Plain t ∷ [])) ≡ item_siblings opens ancestors (item_of n)
idle-thin ancestors n t is =
    ap (λ x. thin_siblings (in_front x no_nodes)) (item_of-Plain t)
    ∙ ap thin_siblings (⊕-no_nodes (idle_nodes t))
    ∙ sym (ap (λ m. item_siblings opens ancestors (item_of m)) is ∙ ap (item_siblings opens ancestors) (item_of-Plain t))

-- ---- the summary of ancestors

pub opens-at : (ancestors : List Tag) (tag : Tag) → opens_at (spot_of ancestors) tag ≡ opens ancestors tag
opens-at [] tag = refl
opens-at (root ∷ []) tag = refl
opens-at (root ∷ other ∷ ancestors) tag = refl

-- ---- own rows and cells

pub owned-before : (spot : Spot) (x : SlotView) (rest : States) → owned_at spot (before x rest) ≡ share_at spot x + owned_at spot rest
owned-before spot (leaf_view leaf present) rest = omega arith
owned-before spot (container_view tag tally inner) rest = refl

pub fresh-owned_at : (ancestors : List Tag) (slots : Slots) → owned_at (spot_of ancestors) (fresh_states ancestors slots) ≡ owned ancestors slots
fresh-owned_at ancestors no_slots = refl
fresh-owned_at ancestors (leaf_slot leaf rest) = fresh-owned_at ancestors rest
fresh-owned_at ancestors (container_slot tag kids inner rest) =
    ap (λ n. (if is_own ancestors tag then 1 else if holds_own_of_ancestor ancestors tag then owned (tag ∷ ancestors) inner else 0) + n) (fresh-owned_at ancestors rest)

share-few : (own between : Bool) (n m : ℕ) → n ≤ m → (if own then 1 else if between then n else 0) ≤ 1 + m
share-few true between n m few = omega arith
share-few false true n m few = omega (arith, few)
share-few false false n m few = omega arith

-- there are no more of them than nodes
owned-few : (ancestors : List Tag) (slots : Slots) → owned ancestors slots ≤ count (original slots)
owned-few ancestors no_slots = omega arith
owned-few ancestors (leaf_slot leaf rest) = omega (arith, owned-few ancestors rest, count-⊕ leaf.nodes (original rest))
owned-few ancestors (container_slot tag kids inner rest) =
    omega (arith, share-few (is_own ancestors tag) (holds_own_of_ancestor ancestors tag) (owned (tag ∷ ancestors) inner) (count (original inner)) (owned-few (tag ∷ ancestors) inner), owned-few ancestors rest)

pub owned-within : (ancestors : List Tag) (kids : Nodes) → owned ancestors (slots_in opens ancestors kids) ≤ count kids
owned-within ancestors kids = omega (arith, owned-few ancestors (slots_in opens ancestors kids), ap count (original-slots opens ancestors kids))
