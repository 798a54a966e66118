-- The equations of the view of slots.
use Rattle.std.proofs.Common.{◌≡◌, ◌<◌, ◌≤◌, ◌+◌, ℕ, List, [], ◌∷◌, ◌++◌, length, get_or, drop, Box, Global, refl, sym, ap, ◌∙◌, rules}
use Rattle.std.proofs.lemmas.List.{drop_more, drop_all}
use Rattle.redl_tree.specs.Model.View.{tag_of}
use Rattle.redl_tree.specs.Leaves.States.{States, no_states, joined_states}
use Rattle.redl_leaves.specs.View.{SlotView, leaf_view, container_view, before, leaf_model, present_of, tally_of, view_of, container_of, states_of}
use Rattle.redl_leaves.specs.declared.slots.Leaf.{Leaf as KeptLeaf}
use Rattle.redl_leaves.specs.declared.slots.Slot.{Slot, the_lemmas}
use Rattle.redl_leaves.specs.declared.slots.Slot as slot
use Rattle.redl_leaves.specs.declared.slots.Slot.TheOpen.{Container-F}
use Rattle.redl_leaves.specs.declared.slots.Container.{Container, roll-Container}

pub view_of-Leaf : (l : KeptLeaf) → view_of (slot.Leaf l) ≡ leaf_view (leaf_model l) (present_of l)
view_of-Leaf l = search (rules, the_lemmas)

pub view_of-Container : (b : Box Container Global) → view_of (slot.Container b) ≡ container_of b.value
view_of-Container b = search (rules, the_lemmas)

pub container_of-fields : (c : Container) → container_of c ≡ container_view (tag_of c.elem) (tally_of c.tally) (states_of c.slots.items)
container_of-fields c = search (rules, the_lemmas)

pub container_of-made : (s : Container-F Slot Container) → container_of (roll-Container s) ≡ container_view (tag_of s.elem) (tally_of s.tally) (states_of s.slots.items)
container_of-made s = search (rules, the_lemmas)

pub before-joined : (x : SlotView) (xs ys : States) → joined_states (before x xs) ys ≡ before x (joined_states xs ys)
before-joined (leaf_view leaf present) xs ys = refl
before-joined (container_view tag tally inner) xs ys = refl

pub states_of-push : (xs : List Slot) (x : Slot) (rest : States) → joined_states (states_of (xs ++ x ∷ [])) rest ≡ joined_states (states_of xs) (before (view_of x) rest)
states_of-push [] x rest = before-joined (view_of x) no_states rest
states_of-push (y ∷ ys) x rest =
    before-joined (view_of y) (states_of (ys ++ x ∷ [])) rest
    ∙ ap (before (view_of y)) (states_of-push ys x rest)
    ∙ sym (before-joined (view_of y) (states_of ys) (before (view_of x) rest))

-- the states from the index i on, where x stands at i
pub states_here : (xs : List Slot) (i : ℕ) (x : Slot) → i < length xs → x ≡ get_or xs i x → states_of (drop i xs) ≡ before (view_of x) (states_of (drop (i + 1) xs))
states_here xs i x within is =
    ap states_of (drop_more xs i x within) ∙ ap (λ y. before (view_of y) (states_of (drop (i + 1) xs))) (sym is)

-- past the last slot there are no states
pub states_end : (xs : List Slot) (i : ℕ) → length xs ≤ i → states_of (drop i xs) ≡ no_states
states_end xs i past = ap states_of (drop_all i xs past)
