-- The leaf at the end of a way, a slot at a time.
use Rattle.std.proofs.Common.{◌≡◌, ◌<◌, ◌≤◌, ℕ, zero, suc, List, [], ◌∷◌, length, get_or, drop, None, refl, sym, ap, ◌∙◌, arith}
use Rattle.redl_tree.specs.Leaves.States.{States, no_states, leaf_state, container_state, slots_of}
use Rattle.redl_tree.specs.Leaves.Ways.{leaf_at}
use Rattle.redl_leaves.specs.declared.slots.Slot.{Slot}
use Rattle.redl_leaves.specs.Finds.{leaf_in}
use Rattle.redl_leaves.specs.View.{SlotView, leaf_view, container_view, before, view_of, states_of}

first : (way : List ℕ) (x : SlotView) (rest : States) → leaf_at (0 ∷ way) (slots_of (before x rest)) ≡ leaf_in way x
first way (leaf_view leaf present) rest = refl
first way (container_view tag tally inner) rest = refl

later : (n : ℕ) (way : List ℕ) (x : SlotView) (rest : States) → leaf_at (suc n ∷ way) (slots_of (before x rest)) ≡ leaf_at (n ∷ way) (slots_of rest)
later n way (leaf_view leaf present) rest = refl
later n way (container_view tag tally inner) rest = refl

here : (n : ℕ) (way : List ℕ) (xs : List Slot) (x : Slot) → n < length xs → x ≡ get_or xs n x
    → leaf_at (n ∷ way) (slots_of (states_of xs)) ≡ leaf_in way (view_of x)
here n way [] x within is = absurd (omega (arith, within))
here zero way (y ∷ ys) x within is = first way (view_of y) (states_of ys) ∙ ap (λ z. leaf_in way (view_of z)) (sym is)
here (suc n) way (y ∷ ys) x within is = later n way (view_of y) (states_of ys) ∙ here n way ys x (omega (arith, within)) is

-- of the slot that the first number of a way names
pub find-here : (way : List ℕ) (xs : List Slot) (x : Slot) → 1 ≤ length way → get_or way 0 0 < length xs → x ≡ get_or xs (get_or way 0 0) x
    → leaf_at way (slots_of (states_of xs)) ≡ leaf_in (drop 1 way) (view_of x)
find-here [] xs x some within is = absurd (omega (arith, some))
find-here (n ∷ way) xs x some within is = here n way xs x within is

beyond : (n : ℕ) (way : List ℕ) (xs : List Slot) → length xs ≤ n → leaf_at (n ∷ way) (slots_of (states_of xs)) ≡ None
beyond n way [] past = refl
beyond zero way (y ∷ ys) past = absurd (omega (arith, past))
beyond (suc n) way (y ∷ ys) past = later n way (view_of y) (states_of ys) ∙ beyond n way ys (omega (arith, past))

-- there is no such slot
pub find-beyond : (way : List ℕ) (xs : List Slot) → 1 ≤ length way → length xs ≤ get_or way 0 0 → leaf_at way (slots_of (states_of xs)) ≡ None
find-beyond [] xs some past = absurd (omega (arith, some))
find-beyond (n ∷ way) xs some past = beyond n way xs past

-- the way is at its end
pub find-end : (way : List ℕ) (states : States) → length way < 1 → leaf_at way (slots_of states) ≡ None
find-end [] no_states none = refl
find-end [] (leaf_state leaf present rest) none = refl
find-end [] (container_state tag tally inner rest) none = refl
find-end (n ∷ way) states none = absurd (omega (arith, none))
