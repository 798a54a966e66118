-- The leaf at the end of a way is the one with its number, in the list of leaves and among those that are lent.
use Rattle.std.proofs.Common.{◌≡◌, ◌∙◌, refl, sym, ap, ℕ, zero, suc, ◌+◌, ◌<◌, List, [], ◌∷◌, ◌++◌, length, length-append, slice_get, Bool, ◌||◌, if◌then◌else◌, arith}
use Rattle.redl_tree.specs.Model.Nodes.{no_nodes}
use Rattle.redl_tree.specs.Leaves.Slots.{Slots, no_slots, leaf_slot, container_slot}
use Rattle.redl_tree.specs.Leaves.Leaf.{leaf_list}
use Rattle.redl_tree.specs.Leaves.States.{States, no_states, leaf_state, container_state, slots_of, lent}
use Rattle.redl_tree.specs.Leaves.Pending.{states_count}
use Rattle.redl_tree.specs.Leaves.Ways.{leaf_at, lent_at, IsWay, number_at}
use Rattle.redl_laws.proofs.Leaves.Places.{list-count}
use Rattle.redl_laws.proofs.Leaves.Ways.{way-within}

-- ---- items of a list

get-next : {X : Type 0} (x : X) (xs : List X) (k : ℕ) → slice_get (x ∷ xs) (1 + k) ≡ slice_get xs k
get-next x xs k = let here : 1 + k ≡ suc k = omega arith in ap (slice_get (x ∷ xs)) here

get-earlier : {X : Type 0} (xs ys : List X) (k : ℕ) → k < length xs → slice_get (xs ++ ys) k ≡ slice_get xs k
get-earlier [] ys k lt = absurd (omega arith)
get-earlier (x ∷ xs) ys zero lt = refl
get-earlier (x ∷ xs) ys (suc k) lt = get-earlier xs ys k (omega arith)

get-later : {X : Type 0} (xs ys : List X) (k : ℕ) → slice_get (xs ++ ys) (length xs + k) ≡ slice_get ys k
get-later [] ys k = let here : 0 + k ≡ k = omega arith in ap (slice_get ys) here
get-later (x ∷ xs) ys k =
    let here : length (x ∷ xs) + k ≡ suc (length xs + k) = omega arith in
    ap (slice_get (x ∷ (xs ++ ys))) here ∙ get-later xs ys k

-- ---- leaves

-- the leaf at the end of a way stands in the list of leaves at the number of the way
pub leaf-numbered : (way : List ℕ) (slots : Slots) → IsWay way slots → slice_get (leaf_list slots) (number_at way slots) ≡ leaf_at way slots
leaf-numbered way no_slots is = absurd is
leaf-numbered [] (leaf_slot leaf rest) is = absurd is
leaf-numbered [] (container_slot tag kids inner rest) is = absurd is
leaf-numbered (zero ∷ way) (leaf_slot leaf rest) is = refl
leaf-numbered (zero ∷ way) (container_slot tag kids inner rest) is =
    let within = way-within way inner is in
    get-earlier (leaf_list inner) (leaf_list rest) (number_at way inner) (omega (arith, within, list-count inner)) ∙ leaf-numbered way inner is
leaf-numbered (suc n ∷ way) (leaf_slot leaf rest) is = get-next leaf (leaf_list rest) (number_at (n ∷ way) rest) ∙ leaf-numbered (n ∷ way) rest is
leaf-numbered (suc n ∷ way) (container_slot tag kids inner rest) is =
    ap (λ c. slice_get (leaf_list inner ++ leaf_list rest) (c + number_at (n ∷ way) rest)) (sym (list-count inner))
    ∙ get-later (leaf_list inner) (leaf_list rest) (number_at (n ∷ way) rest)
    ∙ leaf-numbered (n ∷ way) rest is

-- ---- what is lent

-- as many leaves are lent as there are
pub lent-count : (gone : Bool) (states : States) → length (lent gone states) ≡ states_count states
lent-count gone no_states = refl
lent-count gone (leaf_state leaf present rest) = omega (arith, lent-count gone rest)
lent-count gone (container_state tag tally inner rest) =
    omega (arith, length-append (lent (tally.gone || gone) inner) (lent gone rest), lent-count (tally.gone || gone) inner, lent-count gone rest)

-- what is lent at the end of a way stands among all that is lent at the number of the way
pub lent-numbered : (gone : Bool) (way : List ℕ) (states : States) → IsWay way (slots_of states)
    → slice_get (lent gone states) (number_at way (slots_of states)) ≡ lent_at gone way states
lent-numbered gone way no_states is = absurd is
lent-numbered gone [] (leaf_state leaf present rest) is = absurd is
lent-numbered gone [] (container_state tag tally inner rest) is = absurd is
lent-numbered gone (zero ∷ way) (leaf_state leaf present rest) is = refl
lent-numbered gone (zero ∷ way) (container_state tag tally inner rest) is =
    let within = way-within way (slots_of inner) is in
    get-earlier (lent (tally.gone || gone) inner) (lent gone rest) (number_at way (slots_of inner)) (omega (arith, within, lent-count (tally.gone || gone) inner))
    ∙ lent-numbered (tally.gone || gone) way inner is
lent-numbered gone (suc n ∷ way) (leaf_state leaf present rest) is =
    get-next (if gone then no_nodes else present) (lent gone rest) (number_at (n ∷ way) (slots_of rest)) ∙ lent-numbered gone (n ∷ way) rest is
lent-numbered gone (suc n ∷ way) (container_state tag tally inner rest) is =
    ap (λ c. slice_get (lent (tally.gone || gone) inner ++ lent gone rest) (c + number_at (n ∷ way) (slots_of rest))) (sym (lent-count (tally.gone || gone) inner))
    ∙ get-later (lent (tally.gone || gone) inner) (lent gone rest) (number_at (n ∷ way) (slots_of rest))
    ∙ lent-numbered gone (n ∷ way) rest is
