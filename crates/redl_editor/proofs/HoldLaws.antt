-- What leaves hold, a node and a slot at a time.
use Rattle.std.proofs.Common.{◌≡◌, ◌<◌, ◌≤◌, ◌+◌, ◌==◌, ℕ, List, length, get_or, drop, Bool, true, false, true≢false, Result, Ok, Err, OnErr, ◌&&◌, ◌||◌, not, if◌then◌else◌, refl, sym, ap, ◌∙◌, arith}
use Rattle.std.proofs.Math.Bool.{or_assoc, or-false}
use Rattle.redl_tree.proofs.Model.Laws.{nodes_here, nodes_end}
use Rattle.redl_tree.specs.Leaves.Leaf.{leaf_count}
use Rattle.redl_tree.specs.Leaves.Settings.{has_member}
use Rattle.redl_tree.specs.Leaves.States.{States, slots_of}
use Rattle.redl_tree.specs.Model.IdleTexts.{idle_nodes}
use Rattle.redl_tree.specs.Model.Nodes.{Nodes, no_nodes, bytes, element, Item, bytes_item, element_item, idle_item, in_front, ◌⊕◌}
use Rattle.redl_tree.specs.Model.View.{nodes_of, item_of}
use Rattle.redl_tree.specs.declared.node.Node.{Node}
use Rattle.redl_leaves.proofs.MemberLaws.{member-in_front, no_idle_member}
use Rattle.redl_leaves.proofs.ViewLaws.{states_here, states_end}
use Rattle.redl_editor.specs.Holdings.{is_rev, is_held, nodes_hold, item_holds, slots_hold, view_holds, view_count, member_count, item_members, slots_members, view_members, Notes}
use Rattle.redl_leaves.specs.Members.{item_member}
use Rattle.redl_leaves.specs.View.{SlotView, leaf_view, container_view, before, view_of, states_of}
use Rattle.redl_editor.specs.declared.holding.Held.{Held}
use Rattle.redl_leaves.specs.declared.slots.Slot.{Slot}

spread : (a b c : Bool) → ((a || b) && c) ≡ ((a && c) || (b && c))
spread true true true = refl
spread true true false = refl
spread true false true = refl
spread true false false = refl
spread false b c = refl

-- ---- nodes

holds-front : (here : ℕ) (x : Item) (rest : Nodes) (rev leaf : ℕ)
    → nodes_hold here (in_front x rest) rev leaf ≡ (item_holds here x rev leaf || nodes_hold here rest rev leaf)
holds-front here x rest rev leaf =
    ap (λ b. b && here == leaf) (member-in_front (is_rev rev) x rest) ∙ spread (item_member (is_rev rev) x) (has_member (is_rev rev) rest) (here == leaf)

-- what is noted so far, and what is left, are all
abbrev pub NotesLeft : (ℕ → ℕ → Bool) → (ℕ → ℕ → Bool) → List Held → List Held → Type 0
NotesLeft left all old now = (rev leaf : ℕ) → (is_held now rev leaf || left rev leaf) ≡ (is_held old rev leaf || all rev leaf)

pub notes-more : (left rest here all : ℕ → ℕ → Bool) (old now new : List Held) → ((rev leaf : ℕ) → left rev leaf ≡ (here rev leaf || rest rev leaf))
    → NotesLeft left all old now → Notes here now new → NotesLeft rest all old new
notes-more left rest here all old now new split so_far notes = λ rev leaf.
    ap (λ b. b || rest rev leaf) (notes rev leaf)
    ∙ or_assoc (is_held now rev leaf) (here rev leaf) (rest rev leaf)
    ∙ ap (λ b. is_held now rev leaf || b) (sym (split rev leaf))
    ∙ so_far rev leaf

pub notes-ended : (left all : ℕ → ℕ → Bool) (old now : List Held) → ((rev leaf : ℕ) → left rev leaf ≡ false) → NotesLeft left all old now → Notes all old now
notes-ended left all old now none so_far = λ rev leaf.
    sym (or-false (is_held now rev leaf)) ∙ ap (λ b. is_held now rev leaf || b) (sym (none rev leaf)) ∙ so_far rev leaf

pub holds-here : (here : ℕ) (xs : List Node) (i : ℕ) (x : Node) → i < length xs → x ≡ get_or xs i x → (rev leaf : ℕ)
    → nodes_hold here (nodes_of (drop i xs)) rev leaf ≡ (item_holds here (item_of x) rev leaf || nodes_hold here (nodes_of (drop (i + 1) xs)) rev leaf)
holds-here here xs i x within is rev leaf =
    ap (λ n. nodes_hold here n rev leaf) (nodes_here xs i x within is) ∙ holds-front here (item_of x) (nodes_of (drop (i + 1) xs)) rev leaf

pub holds-end : (here : ℕ) (xs : List Node) (i : ℕ) → length xs ≤ i → (rev leaf : ℕ) → nodes_hold here (nodes_of (drop i xs)) rev leaf ≡ false
holds-end here xs i past rev leaf = ap (λ n. nodes_hold here n rev leaf) (nodes_end xs i past)

-- ---- slots

slots-front : (first : ℕ) (x : SlotView) (rest : States) (rev leaf : ℕ)
    → slots_hold first (slots_of (before x rest)) rev leaf ≡ (view_holds first x rev leaf || slots_hold (first + view_count x) (slots_of rest) rev leaf)
slots-front first (leaf_view here present) rest rev leaf = refl
slots-front first (container_view tag tally inner) rest rev leaf = refl

pub slots-here : (first : ℕ) (xs : List Slot) (i : ℕ) (x : Slot) → i < length xs → x ≡ get_or xs i x → (rev leaf : ℕ)
    → slots_hold first (slots_of (states_of (drop i xs))) rev leaf
    ≡ (view_holds first (view_of x) rev leaf || slots_hold (first + view_count (view_of x)) (slots_of (states_of (drop (i + 1) xs))) rev leaf)
slots-here first xs i x within is rev leaf =
    ap (λ s. slots_hold first (slots_of s) rev leaf) (states_here xs i x within is) ∙ slots-front first (view_of x) (states_of (drop (i + 1) xs)) rev leaf

pub slots-end : (first : ℕ) (xs : List Slot) (i : ℕ) → length xs ≤ i → (rev leaf : ℕ) → slots_hold first (slots_of (states_of (drop i xs))) rev leaf ≡ false
slots-end first xs i past rev leaf = ap (λ s. slots_hold first (slots_of s) rev leaf) (states_end xs i past)

count-front : (x : SlotView) (rest : States) → leaf_count (slots_of (before x rest)) ≡ view_count x + leaf_count (slots_of rest)
count-front (leaf_view here present) rest = refl
count-front (container_view tag tally inner) rest = refl

pub count-here : (xs : List Slot) (i : ℕ) (x : Slot) → i < length xs → x ≡ get_or xs i x
    → leaf_count (slots_of (states_of (drop i xs))) ≡ view_count (view_of x) + leaf_count (slots_of (states_of (drop (i + 1) xs)))
count-here xs i x within is = ap (λ s. leaf_count (slots_of s)) (states_here xs i x within is) ∙ count-front (view_of x) (states_of (drop (i + 1) xs))

pub count-end : (xs : List Slot) (i : ℕ) → length xs ≤ i → leaf_count (slots_of (states_of (drop i xs))) ≡ 0
count-end xs i past = ap (λ s. leaf_count (slots_of s)) (states_end xs i past)

-- ---- how many notes there are

-- what holds anyway holds after an error
pub on-err : {T E : Type 0} {P : Type 0} (answer : Result T E) → P → OnErr answer P
on-err (Ok x) holds = tt
on-err (Err error) holds = holds

members-⊕ : (xs ys : Nodes) → member_count (xs ⊕ ys) ≡ member_count xs + member_count ys
members-⊕ no_nodes ys = omega arith
members-⊕ (bytes b rest) ys = members-⊕ rest ys
members-⊕ (element tag kids rest) ys = omega (arith, members-⊕ rest ys)

members-front : (x : Item) (rest : Nodes) → member_count (in_front x rest) ≡ item_members x + member_count rest
members-front (bytes_item b) rest = omega arith
members-front (element_item tag kids) rest = refl
members-front (idle_item t) rest = members-⊕ (idle_nodes t) rest

pub members-here : (xs : List Node) (i : ℕ) (x : Node) → i < length xs → x ≡ get_or xs i x
    → member_count (nodes_of (drop i xs)) ≡ item_members (item_of x) + member_count (nodes_of (drop (i + 1) xs))
members-here xs i x within is = ap member_count (nodes_here xs i x within is) ∙ members-front (item_of x) (nodes_of (drop (i + 1) xs))

pub members-end : (xs : List Node) (i : ℕ) → length xs ≤ i → member_count (nodes_of (drop i xs)) ≡ 0
members-end xs i past = ap member_count (nodes_end xs i past)

none-so : (a b c : Bool) → (not a || b || c) ≡ false → (a ≡ true) × (b ≡ false) × (c ≡ false)
none-so true false false is = (refl, refl, refl)
none-so true false true is = absurd (true≢false is)
none-so true true c is = absurd (true≢false is)
none-so false b c is = absurd (true≢false is)

abbrev one_unless : Bool → ℕ
one_unless b = if b then 0 else 1

no-members : (nodes : Nodes) → has_member (λ n. not (n == 0)) nodes ≡ false → member_count nodes ≡ 0
no-members no_nodes is = refl
no-members (bytes b rest) is = no-members rest is
no-members (element tag kids rest) is =
    let none = none-so (tag.rev == 0) (has_member (λ n. not (n == 0)) kids) (has_member (λ n. not (n == 0)) rest) is in
    omega (arith, ap one_unless none.0, no-members kids none.1, no-members rest none.2)

-- idle elements are in no revision
pub no-idle-members : (t : List ℕ) → item_members (idle_item t) ≡ 0
no-idle-members t = no-members (idle_nodes t) (no_idle_member (λ n. not (n == 0)) refl t)

slots-members-front : (x : SlotView) (rest : States) → slots_members (slots_of (before x rest)) ≡ view_members x + slots_members (slots_of rest)
slots-members-front (leaf_view here present) rest = refl
slots-members-front (container_view tag tally inner) rest = refl

pub slots-members-here : (xs : List Slot) (i : ℕ) (x : Slot) → i < length xs → x ≡ get_or xs i x
    → slots_members (slots_of (states_of (drop i xs))) ≡ view_members (view_of x) + slots_members (slots_of (states_of (drop (i + 1) xs)))
slots-members-here xs i x within is = ap (λ s. slots_members (slots_of s)) (states_here xs i x within is) ∙ slots-members-front (view_of x) (states_of (drop (i + 1) xs))

pub slots-members-end : (xs : List Slot) (i : ℕ) → length xs ≤ i → slots_members (slots_of (states_of (drop i xs))) ≡ 0
slots-members-end xs i past = ap (λ s. slots_members (slots_of s)) (states_end xs i past)
