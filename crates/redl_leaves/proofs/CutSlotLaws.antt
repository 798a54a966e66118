-- Members that cut a row or a cell, a slot at a time, and containers that are cut anew along a way.
use Rattle.std.proofs.Common.{◌≡◌, ◌<◌, ◌≤◌, ◌+◌, ℕ, zero, suc, List, [], ◌∷◌, Bool, true, false, length, get_or, set, drop, refl, sym, ap, ◌∙◌, arith, ◌&&◌, ◌||◌, if◌then◌else◌}
use Rattle.redl_tables.proofs.CutLaws.{has_cut-⊕, kids_of_all-⊕}
use Rattle.redl_tables.specs.Owners.{test_of, name_of}
use Rattle.redl_tables.specs.declared.cuts.Owner.{Owner}
use Rattle.redl_tree.specs.Decisions.Tables.{has_cut}
use Rattle.redl_tree.specs.Leaves.Rebuilt.{original}
use Rattle.redl_tree.specs.Leaves.States.{States, no_states, leaf_state, container_state, slots_of}
use Rattle.redl_tree.specs.Model.Kids.{kids_of_all}
use Rattle.redl_tree.specs.Model.Nodes.{◌⊕◌}
use Rattle.redl_tree.specs.Roles.Names.{is}
use Rattle.redl_tree.specs.declared.kinds.Say.{Say}
use Rattle.redl_leaves.specs.Inside.Cuts.{cut_slots, member_slots, cut_in, member_in}
use Rattle.redl_leaves.specs.Inside.Mends.{recut, recut_in}
use Rattle.redl_leaves.specs.View.{SlotView, leaf_view, container_view, before, view_of, states_of}
use Rattle.redl_leaves.specs.declared.slots.Slot.{Slot}
use Rattle.redl_leaves.proofs.ViewLaws.{states_here}

pub member-before : (owner : Owner) (says : List Say) (x : SlotView) (rest : States) → member_slots owner says (before x rest) ≡ (member_in owner says x || member_slots owner says rest)
member-before owner says (leaf_view leaf present) rest = has_cut-⊕ (test_of owner) says leaf.nodes (original (slots_of rest))
member-before owner says (container_view tag tally inner) rest = refl

pub cut-before : (owner : Owner) (says : List Say) (x : SlotView) (rest : States) → cut_slots owner says (before x rest) ≡ (cut_in owner says x || cut_slots owner says rest)
cut-before owner says (leaf_view leaf present) rest =
    ap (has_cut (test_of owner) says) (kids_of_all-⊕ (name_of owner) leaf.nodes (original (slots_of rest)))
    ∙ has_cut-⊕ (test_of owner) says (kids_of_all (name_of owner) leaf.nodes) (kids_of_all (name_of owner) (original (slots_of rest)))
cut-before owner says (container_view tag tally inner) rest = at (is (name_of owner) tag)
  where
    at : (b : Bool) → has_cut (test_of owner) says (if b then original (slots_of inner) ⊕ kids_of_all (name_of owner) (original (slots_of rest)) else kids_of_all (name_of owner) (original (slots_of rest)))
        ≡ ((b && member_slots owner says inner) || cut_slots owner says rest)
    at true = has_cut-⊕ (test_of owner) says (original (slots_of inner)) (kids_of_all (name_of owner) (original (slots_of rest)))
    at false = refl

-- one step of a loop over slots that looks for one of which a test holds
pub step : (whole : States → Bool) (one : SlotView → Bool) → ((x : SlotView) (rest : States) → whole (before x rest) ≡ (one x || whole rest))
    → (xs : List Slot) (i : ℕ) (x : Slot) (b : Bool) → i < length xs → x ≡ get_or xs i x → one (view_of x) ≡ b
    → whole (states_of (drop i xs)) ≡ (b || whole (states_of (drop (i + 1) xs)))
step whole one law xs i x b within is e =
    ap whole (states_here xs i x within is) ∙ law (view_of x) (states_of (drop (i + 1) xs)) ∙ ap (λ c. c || whole (states_of (drop (i + 1) xs))) e

-- ---- along a way

first : (says : List Say) (way : List ℕ) (x : SlotView) (rest : States) → recut says (0 ∷ way) (before x rest) ≡ before (recut_in says way x) rest
first says way (leaf_view leaf present) rest = refl
first says way (container_view tag tally inner) rest = refl

later : (says : List Say) (n : ℕ) (way : List ℕ) (x : SlotView) (rest : States) → recut says (suc n ∷ way) (before x rest) ≡ before x (recut says (n ∷ way) rest)
later says n way (leaf_view leaf present) rest = refl
later says n way (container_view tag tally inner) rest = refl

here : (says : List Say) (n : ℕ) (way : List ℕ) (xs : List Slot) (x new : Slot) → n < length xs → x ≡ get_or xs n x → view_of new ≡ recut_in says way (view_of x)
    → states_of (set xs n new) ≡ recut says (n ∷ way) (states_of xs)
here says n way [] x new within is made = absurd (omega (arith, within))
here says zero way (y ∷ ys) x new within is made =
    ap (λ v. before v (states_of ys)) (made ∙ ap (λ z. recut_in says way (view_of z)) is) ∙ sym (first says way (view_of y) (states_of ys))
here says (suc n) way (y ∷ ys) x new within is made =
    ap (before (view_of y)) (here says n way ys x new (omega (arith, within)) is made) ∙ sym (later says n way (view_of y) (states_of ys))

pub recut-here : (says : List Say) (way : List ℕ) (xs : List Slot) (x new : Slot) → 1 ≤ length way → get_or way 0 0 < length xs → x ≡ get_or xs (get_or way 0 0) x
    → view_of new ≡ recut_in says (drop 1 way) (view_of x) → states_of (set xs (get_or way 0 0) new) ≡ recut says way (states_of xs)
recut-here says [] xs x new some within is made = absurd (omega (arith, some))
recut-here says (n ∷ way) xs x new some within is made = here says n way xs x new within is made

beyond : (says : List Say) (n : ℕ) (way : List ℕ) (xs : List Slot) → length xs ≤ n → states_of xs ≡ recut says (n ∷ way) (states_of xs)
beyond says n way [] past = refl
beyond says zero way (y ∷ ys) past = absurd (omega (arith, past))
beyond says (suc n) way (y ∷ ys) past = ap (before (view_of y)) (beyond says n way ys (omega (arith, past))) ∙ sym (later says n way (view_of y) (states_of ys))

pub recut-beyond : (says : List Say) (way : List ℕ) (xs : List Slot) → 1 ≤ length way → length xs ≤ get_or way 0 0 → states_of xs ≡ recut says way (states_of xs)
recut-beyond says [] xs some past = absurd (omega (arith, some))
recut-beyond says (n ∷ way) xs some past = beyond says n way xs past

pub recut-end : (says : List Say) (way : List ℕ) (states : States) → length way < 1 → states ≡ recut says way states
recut-end says [] no_states none = refl
recut-end says [] (leaf_state leaf present rest) none = refl
recut-end says [] (container_state tag tally inner rest) none = refl
recut-end says (n ∷ way) states none = absurd (omega (arith, none))
