-- What is lent along a way, a slot at a time.
use Rattle.std.proofs.Common.{◌≡◌, ◌<◌, ◌≤◌, ℕ, zero, suc, List, [], ◌∷◌, length, get_or, drop, Bool, None, refl, sym, ap, ◌∙◌, arith}
use Rattle.redl_tree.specs.Leaves.States.{States, no_states, leaf_state, container_state}
use Rattle.redl_tree.specs.Leaves.Ways.{lent_at}
use Rattle.redl_leaves.specs.declared.slots.Slot.{Slot}
use Rattle.redl_leaves.specs.Lends.{lent_in}
use Rattle.redl_leaves.specs.View.{SlotView, leaf_view, container_view, before, view_of, states_of}

first : (gone : Bool) (way : List ℕ) (x : SlotView) (rest : States) → lent_at gone (0 ∷ way) (before x rest) ≡ lent_in gone way x
first gone way (leaf_view leaf present) rest = refl
first gone way (container_view tag tally inner) rest = refl

later : (gone : Bool) (n : ℕ) (way : List ℕ) (x : SlotView) (rest : States) → lent_at gone (suc n ∷ way) (before x rest) ≡ lent_at gone (n ∷ way) rest
later gone n way (leaf_view leaf present) rest = refl
later gone n way (container_view tag tally inner) rest = refl

here : (gone : Bool) (n : ℕ) (way : List ℕ) (xs : List Slot) (x : Slot) → n < length xs → x ≡ get_or xs n x
    → lent_at gone (n ∷ way) (states_of xs) ≡ lent_in gone way (view_of x)
here gone n way [] x within is = absurd (omega (arith, within))
here gone zero way (y ∷ ys) x within is = first gone way (view_of y) (states_of ys) ∙ ap (λ z. lent_in gone way (view_of z)) (sym is)
here gone (suc n) way (y ∷ ys) x within is = later gone n way (view_of y) (states_of ys) ∙ here gone n way ys x (omega (arith, within)) is

-- of the slot that the first number of a way names
pub lent-here : (gone : Bool) (way : List ℕ) (xs : List Slot) (x : Slot) → 1 ≤ length way → get_or way 0 0 < length xs → x ≡ get_or xs (get_or way 0 0) x
    → lent_at gone way (states_of xs) ≡ lent_in gone (drop 1 way) (view_of x)
lent-here gone [] xs x some within is = absurd (omega (arith, some))
lent-here gone (n ∷ way) xs x some within is = here gone n way xs x within is

beyond : (gone : Bool) (n : ℕ) (way : List ℕ) (xs : List Slot) → length xs ≤ n → lent_at gone (n ∷ way) (states_of xs) ≡ None
beyond gone n way [] past = refl
beyond gone zero way (y ∷ ys) past = absurd (omega (arith, past))
beyond gone (suc n) way (y ∷ ys) past = later gone n way (view_of y) (states_of ys) ∙ beyond gone n way ys (omega (arith, past))

-- there is no such slot
pub lent-beyond : (gone : Bool) (way : List ℕ) (xs : List Slot) → 1 ≤ length way → length xs ≤ get_or way 0 0 → lent_at gone way (states_of xs) ≡ None
lent-beyond gone [] xs some past = absurd (omega (arith, some))
lent-beyond gone (n ∷ way) xs some past = beyond gone n way xs past

-- the way is at its end
pub lent-end : (gone : Bool) (way : List ℕ) (states : States) → length way < 1 → lent_at gone way states ≡ None
lent-end gone [] no_states none = refl
lent-end gone [] (leaf_state leaf present rest) none = refl
lent-end gone [] (container_state tag tally inner rest) none = refl
lent-end gone (n ∷ way) states none = absurd (omega (arith, none))
