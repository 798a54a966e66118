-- Tallies mended along a way, a slot at a time.
use Rattle.std.proofs.Common.{◌≡◌, ◌<◌, ◌≤◌, ◌+◌, ◌-◌, ◌^◌, min, ℕ, zero, suc, List, [], ◌∷◌, Bool, true, false, length, get_or, set, drop, refl, sym, ap, ◌∙◌, arith, if◌then◌else◌}
use Rattle.redl_tree.specs.Leaves.Living.{holds_own_of_ancestor, cut_at, goes_by_counts}
use Rattle.redl_tree.specs.Leaves.Rebuilt.{original}
use Rattle.redl_tree.specs.Leaves.Slots.{leaf_slot, container_slot}
use Rattle.redl_tree.specs.Leaves.Ways.{tally_of}
use Rattle.redl_tree.specs.declared.kinds.Say.{Say}
use Rattle.redl_leaves.specs.Puts.{mended}
use Rattle.redl_tree.specs.Leaves.States.{Tally, States, no_states, leaf_state, container_state, slots_of, states_owned, states_living, one_left, AreTallied}
use Rattle.redl_tree.specs.Model.Nodes.{Tag}
use Rattle.redl_tree.specs.Revisions.Markers.{is_own}
use Rattle.redl_leaves.specs.declared.mending.Shift.{Shift}
use Rattle.redl_leaves.specs.declared.slots.Slot.{Slot}
use Rattle.redl_leaves.specs.Inside.Mends.{recut, retallied, retallied_in, HasNumbers, HasNumbersIn, share, Mends, MendsIn}
use Rattle.redl_leaves.specs.View.{SlotView, leaf_view, container_view, before, view_of, states_of}

-- ---- no more stay than there are

share-within : (own between gone : Bool) (living owned : ℕ) → living ≤ owned
    → (if own then one_left gone else if between then living else 0) ≤ (if own then 1 else if between then owned else 0)
share-within true between true living owned few = omega arith
share-within true between false living owned few = omega arith
share-within false true gone living owned few = omega (arith, few)
share-within false false gone living owned few = omega arith

pub living-within : (ancestors : List Tag) (states : States) → HasNumbers ancestors states → states_living ancestors states ≤ states_owned ancestors states
living-within ancestors no_states h = omega arith
living-within ancestors (leaf_state leaf present rest) h = living-within ancestors rest h
living-within ancestors (container_state tag tally inner rest) h =
    let few : tally.living ≤ tally.owned = omega (arith, h.0, h.1, living-within (tag ∷ ancestors) inner h.2) in
    omega (arith, share-within (is_own ancestors tag) (holds_own_of_ancestor ancestors tag) tally.gone tally.living tally.owned few, living-within ancestors rest h.3)

-- ---- along a way

pub owned-retallied : (ancestors : List Tag) (way : List ℕ) (states : States) → states_owned ancestors (retallied ancestors way states) ≡ states_owned ancestors states
owned-retallied ancestors way no_states = refl
owned-retallied ancestors [] (leaf_state leaf present rest) = refl
owned-retallied ancestors [] (container_state tag tally inner rest) = refl
owned-retallied ancestors (zero ∷ way) (leaf_state leaf present rest) = refl
owned-retallied ancestors (zero ∷ way) (container_state tag tally inner rest) = refl
owned-retallied ancestors (suc n ∷ way) (leaf_state leaf present rest) = owned-retallied ancestors (n ∷ way) rest
owned-retallied ancestors (suc n ∷ way) (container_state tag tally inner rest) =
    ap (λ k. (if is_own ancestors tag then 1 else if holds_own_of_ancestor ancestors tag then tally.owned else 0) + k) (owned-retallied ancestors (n ∷ way) rest)

pub numbers-retallied : (ancestors : List Tag) (way : List ℕ) (states : States) → HasNumbers ancestors states → HasNumbers ancestors (retallied ancestors way states)
numbers-retallied ancestors way no_states h = h
numbers-retallied ancestors [] (leaf_state leaf present rest) h = h
numbers-retallied ancestors [] (container_state tag tally inner rest) h = h
numbers-retallied ancestors (zero ∷ way) (leaf_state leaf present rest) h = h
numbers-retallied ancestors (zero ∷ way) (container_state tag tally inner rest) h =
    (h.0 ∙ sym (owned-retallied (tag ∷ ancestors) way inner), refl, numbers-retallied (tag ∷ ancestors) way inner h.2, h.3)
numbers-retallied ancestors (suc n ∷ way) (leaf_state leaf present rest) h = numbers-retallied ancestors (n ∷ way) rest h
numbers-retallied ancestors (suc n ∷ way) (container_state tag tally inner rest) h = (h.0, h.1, h.2, numbers-retallied ancestors (n ∷ way) rest h.3)

-- the number after a shift
pub shifted-is : (living gone_before come_after new : ℕ) → new + gone_before ≡ living + come_after → gone_before ≤ living → new ≤ 2 ^ 32 - 1
    → min ((living - gone_before) + come_after) (2 ^ 32 - 1) ≡ new
shifted-is living gone_before come_after new same within few = omega (arith, same, within, few)

-- ---- in a list of slots

first : (ancestors : List Tag) (way : List ℕ) (x : SlotView) (rest : States) → retallied ancestors (0 ∷ way) (before x rest) ≡ before (retallied_in ancestors way x) rest
first ancestors way (leaf_view leaf present) rest = refl
first ancestors way (container_view tag tally inner) rest = refl

later : (ancestors : List Tag) (n : ℕ) (way : List ℕ) (x : SlotView) (rest : States) → retallied ancestors (suc n ∷ way) (before x rest) ≡ before x (retallied ancestors (n ∷ way) rest)
later ancestors n way (leaf_view leaf present) rest = refl
later ancestors n way (container_view tag tally inner) rest = refl

living-before : (ancestors : List Tag) (x : SlotView) (rest : States) → states_living ancestors (before x rest) ≡ share ancestors x + states_living ancestors rest
living-before ancestors (leaf_view leaf present) rest = omega arith
living-before ancestors (container_view tag tally inner) rest = refl

numbers-first : (ancestors : List Tag) (x : SlotView) (rest : States) → HasNumbers ancestors (before x rest) → HasNumbersIn ancestors x
numbers-first ancestors (leaf_view leaf present) rest h = tt
numbers-first ancestors (container_view tag tally inner) rest h = (h.0, h.1, h.2)

numbers-later : (ancestors : List Tag) (x : SlotView) (rest : States) → HasNumbers ancestors (before x rest) → HasNumbers ancestors rest
numbers-later ancestors (leaf_view leaf present) rest h = h
numbers-later ancestors (container_view tag tally inner) rest h = h.3

numbers-here : (ancestors : List Tag) (n : ℕ) (xs : List Slot) (x : Slot) → n < length xs → x ≡ get_or xs n x → HasNumbers ancestors (states_of xs) → HasNumbersIn ancestors (view_of x)
numbers-here ancestors n [] x within is h = absurd (omega (arith, within))
numbers-here ancestors zero (y ∷ ys) x within is h = rw is (numbers-first ancestors (view_of y) (states_of ys) h)
numbers-here ancestors (suc n) (y ∷ ys) x within is h = numbers-here ancestors n ys x (omega (arith, within)) is (numbers-later ancestors (view_of y) (states_of ys) h)

pub mend-numbers : (ancestors : List Tag) (way : List ℕ) (xs : List Slot) (x : Slot) → 1 ≤ length way → get_or way 0 0 < length xs → x ≡ get_or xs (get_or way 0 0) x
    → HasNumbers ancestors (states_of xs) → HasNumbersIn ancestors (view_of x)
mend-numbers ancestors [] xs x some within is h = absurd (omega (arith, some))
mend-numbers ancestors (n ∷ way) xs x some within is h = numbers-here ancestors n xs x within is h

here : (ancestors : List Tag) (n : ℕ) (way : List ℕ) (xs : List Slot) (x new : Slot) (shift : Shift) → n < length xs → x ≡ get_or xs n x
    → MendsIn ancestors way (view_of x) (view_of new) shift → Mends ancestors (n ∷ way) (states_of xs) (states_of (set xs n new)) shift
here ancestors n way [] x new shift within is m = absurd (omega (arith, within))
here ancestors zero way (y ∷ ys) x new shift within is m = record {
  states = ap (λ v. before v (states_of ys)) (m.slot ∙ ap (λ z. retallied_in ancestors way (view_of z)) is) ∙ sym (first ancestors way (view_of y) (states_of ys));
  living = omega (arith, m.before, m.after, ap (λ z. share ancestors (view_of z)) is, living-before ancestors (view_of new) (states_of ys), living-before ancestors (view_of y) (states_of ys));
  within = omega (arith, m.before, ap (λ z. share ancestors (view_of z)) is, living-before ancestors (view_of y) (states_of ys));
}
here ancestors (suc n) way (y ∷ ys) x new shift within is m =
    let below = here ancestors n way ys x new shift (omega (arith, within)) is m in
    record {
      states = ap (before (view_of y)) below.states ∙ sym (later ancestors n way (view_of y) (states_of ys));
      living = omega (arith, below.living, living-before ancestors (view_of y) (states_of (set ys n new)), living-before ancestors (view_of y) (states_of ys));
      within = omega (arith, below.within, living-before ancestors (view_of y) (states_of ys));
    }

pub mend-here : (ancestors : List Tag) (way : List ℕ) (xs : List Slot) (x new : Slot) (shift : Shift) → 1 ≤ length way → get_or way 0 0 < length xs → x ≡ get_or xs (get_or way 0 0) x
    → MendsIn ancestors (drop 1 way) (view_of x) (view_of new) shift → Mends ancestors way (states_of xs) (states_of (set xs (get_or way 0 0) new)) shift
mend-here ancestors [] xs x new shift some within is m = absurd (omega (arith, some))
mend-here ancestors (n ∷ way) xs x new shift some within is m = here ancestors n way xs x new shift within is m

beyond : (ancestors : List Tag) (n : ℕ) (way : List ℕ) (xs : List Slot) → length xs ≤ n → states_of xs ≡ retallied ancestors (n ∷ way) (states_of xs)
beyond ancestors n way [] past = refl
beyond ancestors zero way (y ∷ ys) past = absurd (omega (arith, past))
beyond ancestors (suc n) way (y ∷ ys) past = ap (before (view_of y)) (beyond ancestors n way ys (omega (arith, past))) ∙ sym (later ancestors n way (view_of y) (states_of ys))

pub mend-beyond : (ancestors : List Tag) (way : List ℕ) (xs : List Slot) → 1 ≤ length way → length xs ≤ get_or way 0 0 → states_of xs ≡ retallied ancestors way (states_of xs)
mend-beyond ancestors [] xs some past = absurd (omega (arith, some))
mend-beyond ancestors (n ∷ way) xs some past = beyond ancestors n way xs past

pub mend-end : (ancestors : List Tag) (way : List ℕ) (states : States) → length way < 1 → states ≡ retallied ancestors way states
mend-end ancestors [] no_states none = refl
mend-end ancestors [] (leaf_state leaf present rest) none = refl
mend-end ancestors [] (container_state tag tally inner rest) none = refl
mend-end ancestors (n ∷ way) states none = absurd (omega (arith, none))

-- a tally by its parts
abbrev pub tally_by : Bool → ℕ → ℕ → Bool → Tally
tally_by cut owned living gone = record { cut = cut; owned = owned; living = living; gone = gone }

pub same-tally : (a b : Bool) (n m k l : ℕ) (g h : Bool) → a ≡ b → n ≡ m → k ≡ l → g ≡ h → tally_by a n k g ≡ tally_by b m l h
same-tally a b n m k l g h cut owned living gone =
    ap (λ x. tally_by x n k g) cut ∙ ap (λ x. tally_by b x k g) owned ∙ ap (λ x. tally_by b m x g) living ∙ ap (λ x. tally_by b m l x) gone

-- ---- one step of an editor: a leaf is made anew, the containers on its way are cut where the says cut them, and their tallies are mended

abbrev pub counted_as : List Tag → Tag → Bool → ℕ → States → Tally
counted_as ancestors tag cut owned inner =
    tally_by cut owned (states_living (tag ∷ ancestors) inner) (goes_by_counts ancestors tag cut owned (states_living (tag ∷ ancestors) inner))

recut-slots : (says : List Say) (way : List ℕ) (states : States) → slots_of (recut says way states) ≡ slots_of states
recut-slots says way no_states = refl
recut-slots says [] (leaf_state leaf present rest) = refl
recut-slots says [] (container_state tag tally inner rest) = refl
recut-slots says (zero ∷ way) (leaf_state leaf present rest) = refl
recut-slots says (zero ∷ way) (container_state tag tally inner rest) =
    ap (λ s. container_slot tag (original s) s (slots_of rest)) (recut-slots says way inner)
recut-slots says (suc n ∷ way) (leaf_state leaf present rest) = ap (leaf_slot leaf) (recut-slots says (n ∷ way) rest)
recut-slots says (suc n ∷ way) (container_state tag tally inner rest) = ap (container_slot tag (original (slots_of inner)) (slots_of inner)) (recut-slots says (n ∷ way) rest)

retallied-slots : (ancestors : List Tag) (way : List ℕ) (states : States) → slots_of (retallied ancestors way states) ≡ slots_of states
retallied-slots ancestors way no_states = refl
retallied-slots ancestors [] (leaf_state leaf present rest) = refl
retallied-slots ancestors [] (container_state tag tally inner rest) = refl
retallied-slots ancestors (zero ∷ way) (leaf_state leaf present rest) = refl
retallied-slots ancestors (zero ∷ way) (container_state tag tally inner rest) =
    ap (λ s. container_slot tag (original s) s (slots_of rest)) (retallied-slots (tag ∷ ancestors) way inner)
retallied-slots ancestors (suc n ∷ way) (leaf_state leaf present rest) = ap (leaf_slot leaf) (retallied-slots ancestors (n ∷ way) rest)
retallied-slots ancestors (suc n ∷ way) (container_state tag tally inner rest) =
    ap (container_slot tag (original (slots_of inner)) (slots_of inner)) (retallied-slots ancestors (n ∷ way) rest)

recut-owned : (says : List Say) (ancestors : List Tag) (way : List ℕ) (states : States) → states_owned ancestors (recut says way states) ≡ states_owned ancestors states
recut-owned says ancestors way no_states = refl
recut-owned says ancestors [] (leaf_state leaf present rest) = refl
recut-owned says ancestors [] (container_state tag tally inner rest) = refl
recut-owned says ancestors (zero ∷ way) (leaf_state leaf present rest) = refl
recut-owned says ancestors (zero ∷ way) (container_state tag tally inner rest) = refl
recut-owned says ancestors (suc n ∷ way) (leaf_state leaf present rest) = recut-owned says ancestors (n ∷ way) rest
recut-owned says ancestors (suc n ∷ way) (container_state tag tally inner rest) =
    ap (λ k. (if is_own ancestors tag then 1 else if holds_own_of_ancestor ancestors tag then tally.owned else 0) + k) (recut-owned says ancestors (n ∷ way) rest)

pub mended-recut : (says : List Say) (ancestors : List Tag) (way : List ℕ) (states : States) → HasNumbers ancestors states
    → retallied ancestors way (recut says way states) ≡ mended says ancestors way states
mended-recut says ancestors way no_states h = refl
mended-recut says ancestors [] (leaf_state leaf present rest) h = refl
mended-recut says ancestors [] (container_state tag tally inner rest) h = refl
mended-recut says ancestors (zero ∷ way) (leaf_state leaf present rest) h = refl
mended-recut says ancestors (zero ∷ way) (container_state tag tally inner rest) h =
    let cut = recut says way inner in
    let now = retallied (tag ∷ ancestors) way cut in
    let below : now ≡ mended says (tag ∷ ancestors) way inner = mended-recut says (tag ∷ ancestors) way inner h.2 in
    let slots : slots_of cut ≡ slots_of now = sym (retallied-slots (tag ∷ ancestors) way cut) in
    let owned : tally.owned ≡ states_owned (tag ∷ ancestors) now =
    h.0 ∙ sym (recut-owned says (tag ∷ ancestors) way inner) ∙ sym (owned-retallied (tag ∷ ancestors) way cut) in
    ap (λ s. container_state tag (counted_as ancestors tag (cut_at says tag (original s)) tally.owned now) now rest) slots
    ∙ ap (λ n. container_state tag (counted_as ancestors tag (cut_at says tag (original (slots_of now))) n now) now rest) owned
    ∙ ap (λ s. container_state tag (tally_of says ancestors tag s) s rest) below
mended-recut says ancestors (suc n ∷ way) (leaf_state leaf present rest) h = ap (leaf_state leaf present) (mended-recut says ancestors (n ∷ way) rest h)
mended-recut says ancestors (suc n ∷ way) (container_state tag tally inner rest) h =
    ap (container_state tag tally inner) (mended-recut says ancestors (n ∷ way) rest h.3)

-- ---- where a step begins

pub numbers-tallied : (ancestors : List Tag) (states : States) → AreTallied ancestors states → HasNumbers ancestors states
numbers-tallied ancestors no_states h = tt
numbers-tallied ancestors (leaf_state leaf present rest) h = numbers-tallied ancestors rest h
numbers-tallied ancestors (container_state tag tally inner rest) h =
    (h.0.owned, h.0.living, numbers-tallied (tag ∷ ancestors) inner h.1, numbers-tallied ancestors rest h.2)

recut-living : (says : List Say) (ancestors : List Tag) (way : List ℕ) (states : States) → states_living ancestors (recut says way states) ≡ states_living ancestors states
recut-living says ancestors way no_states = refl
recut-living says ancestors [] (leaf_state leaf present rest) = refl
recut-living says ancestors [] (container_state tag tally inner rest) = refl
recut-living says ancestors (zero ∷ way) (leaf_state leaf present rest) = refl
recut-living says ancestors (zero ∷ way) (container_state tag tally inner rest) = refl
recut-living says ancestors (suc n ∷ way) (leaf_state leaf present rest) = recut-living says ancestors (n ∷ way) rest
recut-living says ancestors (suc n ∷ way) (container_state tag tally inner rest) =
    ap (λ k. (if is_own ancestors tag then one_left tally.gone else if holds_own_of_ancestor ancestors tag then tally.living else 0) + k) (recut-living says ancestors (n ∷ way) rest)

pub numbers-recut : (says : List Say) (ancestors : List Tag) (way : List ℕ) (states : States) → HasNumbers ancestors states → HasNumbers ancestors (recut says way states)
numbers-recut says ancestors way no_states h = h
numbers-recut says ancestors [] (leaf_state leaf present rest) h = h
numbers-recut says ancestors [] (container_state tag tally inner rest) h = h
numbers-recut says ancestors (zero ∷ way) (leaf_state leaf present rest) h = h
numbers-recut says ancestors (zero ∷ way) (container_state tag tally inner rest) h =
    (h.0 ∙ sym (recut-owned says (tag ∷ ancestors) way inner), h.1 ∙ sym (recut-living says (tag ∷ ancestors) way inner), numbers-recut says (tag ∷ ancestors) way inner h.2, h.3)
numbers-recut says ancestors (suc n ∷ way) (leaf_state leaf present rest) h = numbers-recut says ancestors (n ∷ way) rest h
numbers-recut says ancestors (suc n ∷ way) (container_state tag tally inner rest) h = (h.0, h.1, h.2, numbers-recut says ancestors (n ∷ way) rest h.3)
