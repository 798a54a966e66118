-- The leaf at the end of a way made anew, a slot at a time.
use Rattle.std.proofs.Common.{◌≡◌, ◌<◌, ◌≤◌, ◌+◌, ℕ, zero, suc, List, [], ◌∷◌, length, get_or, set, drop, refl, sym, ap, ◌∙◌, arith, if◌then◌else◌}
use Rattle.redl_tree.specs.Leaves.States.{States, no_states, leaf_state, container_state, states_owned, states_living, one_left, AreTallied}
use Rattle.redl_tree.specs.Leaves.Living.{holds_own_of_ancestor}
use Rattle.redl_tree.specs.Leaves.Ways.{tally_of, made_at}
use Rattle.redl_tree.specs.Model.Nodes.{Tag}
use Rattle.redl_tree.specs.Revisions.Markers.{is_own}
use Rattle.redl_tree.specs.declared.kinds.Say.{Say}
use Rattle.redl_leaves.specs.declared.slots.Slot.{Slot}
use Rattle.redl_leaves.specs.Puts.{remade, remade_in, mended}
use Rattle.redl_leaves.specs.View.{SlotView, leaf_view, container_view, before, view_of, states_of}

first : (says : List Say) (way : List ℕ) (x : SlotView) (rest : States) → remade says (0 ∷ way) (before x rest) ≡ before (remade_in says way x) rest
first says way (leaf_view leaf present) rest = refl
first says way (container_view tag tally inner) rest = refl

later : (says : List Say) (n : ℕ) (way : List ℕ) (x : SlotView) (rest : States) → remade says (suc n ∷ way) (before x rest) ≡ before x (remade says (n ∷ way) rest)
later says n way (leaf_view leaf present) rest = refl
later says n way (container_view tag tally inner) rest = refl

here : (says : List Say) (n : ℕ) (way : List ℕ) (xs : List Slot) (x new : Slot) → n < length xs → x ≡ get_or xs n x → view_of new ≡ remade_in says way (view_of x)
    → states_of (set xs n new) ≡ remade says (n ∷ way) (states_of xs)
here says n way [] x new within is made = absurd (omega (arith, within))
here says zero way (y ∷ ys) x new within is made =
    ap (λ v. before v (states_of ys)) (made ∙ ap (λ z. remade_in says way (view_of z)) is) ∙ sym (first says way (view_of y) (states_of ys))
here says (suc n) way (y ∷ ys) x new within is made =
    ap (before (view_of y)) (here says n way ys x new (omega (arith, within)) is made) ∙ sym (later says n way (view_of y) (states_of ys))

-- at the slot that the first number of a way names
pub put-here : (says : List Say) (way : List ℕ) (xs : List Slot) (x new : Slot) → 1 ≤ length way → get_or way 0 0 < length xs → x ≡ get_or xs (get_or way 0 0) x
    → view_of new ≡ remade_in says (drop 1 way) (view_of x) → states_of (set xs (get_or way 0 0) new) ≡ remade says way (states_of xs)
put-here says [] xs x new some within is made = absurd (omega (arith, some))
put-here says (n ∷ way) xs x new some within is made = here says n way xs x new within is made

beyond : (says : List Say) (n : ℕ) (way : List ℕ) (xs : List Slot) → length xs ≤ n → states_of xs ≡ remade says (n ∷ way) (states_of xs)
beyond says n way [] past = refl
beyond says zero way (y ∷ ys) past = absurd (omega (arith, past))
beyond says (suc n) way (y ∷ ys) past = ap (before (view_of y)) (beyond says n way ys (omega (arith, past))) ∙ sym (later says n way (view_of y) (states_of ys))

pub put-beyond : (says : List Say) (way : List ℕ) (xs : List Slot) → 1 ≤ length way → length xs ≤ get_or way 0 0 → states_of xs ≡ remade says way (states_of xs)
put-beyond says [] xs some past = absurd (omega (arith, some))
put-beyond says (n ∷ way) xs some past = beyond says n way xs past

pub put-end : (says : List Say) (way : List ℕ) (states : States) → length way < 1 → states ≡ remade says way states
put-end says [] no_states none = refl
put-end says [] (leaf_state leaf present rest) none = refl
put-end says [] (container_state tag tally inner rest) none = refl
put-end says (n ∷ way) states none = absurd (omega (arith, none))

-- a leaf is made anew, and then the tallies are mended: one step of an editor
pub mended-remade : (says : List Say) (ancestors : List Tag) (way : List ℕ) (states : States) → mended says ancestors way (remade says way states) ≡ made_at says ancestors way states
mended-remade says ancestors way no_states = refl
mended-remade says ancestors [] (leaf_state leaf present rest) = refl
mended-remade says ancestors [] (container_state tag tally inner rest) = refl
mended-remade says ancestors (zero ∷ way) (leaf_state leaf present rest) = refl
mended-remade says ancestors (zero ∷ way) (container_state tag tally inner rest) =
    ap (λ s. container_state tag (tally_of says ancestors tag s) s rest) (mended-remade says (tag ∷ ancestors) way inner)
mended-remade says ancestors (suc n ∷ way) (leaf_state leaf present rest) = ap (leaf_state leaf present) (mended-remade says ancestors (n ∷ way) rest)
mended-remade says ancestors (suc n ∷ way) (container_state tag tally inner rest) =
    ap (container_state tag tally inner) (mended-remade says ancestors (n ∷ way) rest)

-- tallies don't look at leaves
owned-remade : (says : List Say) (ancestors : List Tag) (way : List ℕ) (states : States) → states_owned ancestors (remade says way states) ≡ states_owned ancestors states
owned-remade says ancestors way no_states = refl
owned-remade says ancestors [] (leaf_state leaf present rest) = refl
owned-remade says ancestors [] (container_state tag tally inner rest) = refl
owned-remade says ancestors (zero ∷ way) (leaf_state leaf present rest) = refl
owned-remade says ancestors (zero ∷ way) (container_state tag tally inner rest) = refl
owned-remade says ancestors (suc n ∷ way) (leaf_state leaf present rest) = owned-remade says ancestors (n ∷ way) rest
owned-remade says ancestors (suc n ∷ way) (container_state tag tally inner rest) =
    ap (λ k. (if is_own ancestors tag then 1 else if holds_own_of_ancestor ancestors tag then tally.owned else 0) + k) (owned-remade says ancestors (n ∷ way) rest)

living-remade : (says : List Say) (ancestors : List Tag) (way : List ℕ) (states : States) → states_living ancestors (remade says way states) ≡ states_living ancestors states
living-remade says ancestors way no_states = refl
living-remade says ancestors [] (leaf_state leaf present rest) = refl
living-remade says ancestors [] (container_state tag tally inner rest) = refl
living-remade says ancestors (zero ∷ way) (leaf_state leaf present rest) = refl
living-remade says ancestors (zero ∷ way) (container_state tag tally inner rest) = refl
living-remade says ancestors (suc n ∷ way) (leaf_state leaf present rest) = living-remade says ancestors (n ∷ way) rest
living-remade says ancestors (suc n ∷ way) (container_state tag tally inner rest) =
    ap (λ k. (if is_own ancestors tag then one_left tally.gone else if holds_own_of_ancestor ancestors tag then tally.living else 0) + k) (living-remade says ancestors (n ∷ way) rest)

pub tallied-remade : (says : List Say) (ancestors : List Tag) (way : List ℕ) (states : States) → AreTallied ancestors states → AreTallied ancestors (remade says way states)
tallied-remade says ancestors way no_states h = h
tallied-remade says ancestors [] (leaf_state leaf present rest) h = h
tallied-remade says ancestors [] (container_state tag tally inner rest) h = h
tallied-remade says ancestors (zero ∷ way) (leaf_state leaf present rest) h = h
tallied-remade says ancestors (zero ∷ way) (container_state tag tally inner rest) h = (
  record {
    owned = h.0.owned ∙ sym (owned-remade says (tag ∷ ancestors) way inner);
    living = h.0.living ∙ sym (living-remade says (tag ∷ ancestors) way inner);
    gone = h.0.gone;
  },
  tallied-remade says (tag ∷ ancestors) way inner h.1,
  h.2,
)
tallied-remade says ancestors (suc n ∷ way) (leaf_state leaf present rest) h = tallied-remade says ancestors (n ∷ way) rest h
tallied-remade says ancestors (suc n ∷ way) (container_state tag tally inner rest) h = (h.0, h.1, tallied-remade says ancestors (n ∷ way) rest h.2)
