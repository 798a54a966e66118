-- The ways to the leaves of slots, a slot at a time.
use Rattle.std.proofs.Common.{◌≡◌, ◌<◌, ◌≤◌, ◌+◌, ℕ, suc, List, [], ◌∷◌, ◌++◌, length, get_or, map, drop, refl, sym, ap, subst, ◌∙◌, arith}
use Rattle.std.proofs.lemmas.List.{append-nil}
use Rattle.redl_tree.specs.Leaves.States.{States, slots_of}
use Rattle.redl_tree.specs.Leaves.Ways.{ways_from}
use Rattle.redl_leaves.proofs.ViewLaws.{states_here, states_end}
use Rattle.redl_editor.specs.Places.{HasWays}
use Rattle.redl_leaves.specs.View.{SlotView, leaf_view, container_view, before, view_of, states_of}
use Rattle.redl_editor.specs.Inside.Walks.{AddsWays, ways_in, fronted}
use Rattle.redl_editor.specs.declared.places.Places.{Places as Kept}
use Rattle.redl_leaves.specs.declared.slots.Slot.{Slot}

append-assoc : {X : Type 0} (xs ys zs : List X) → (xs ++ ys) ++ zs ≡ xs ++ (ys ++ zs)
append-assoc [] ys zs = refl
append-assoc (x ∷ xs) ys zs = ap (λ more. x ∷ more) (append-assoc xs ys zs)

fronted-slot : (front : List ℕ) (at : ℕ) (ways : List (List ℕ)) → fronted (front ++ at ∷ []) ways ≡ fronted front (map (λ rest. at ∷ rest) ways)
fronted-slot front at [] = refl
fronted-slot front at (way ∷ ways) =
    ap (λ w. w ∷ fronted (front ++ at ∷ []) ways) (append-assoc front (at ∷ []) way)
    ∙ ap (λ more. (front ++ (at ∷ way)) ∷ more) (fronted-slot front at ways)

fronted-append : (front : List ℕ) (xs ys : List (List ℕ)) → fronted front (xs ++ ys) ≡ fronted front xs ++ fronted front ys
fronted-append front [] ys = refl
fronted-append front (x ∷ xs) ys = ap (λ more. (front ++ x) ∷ more) (fronted-append front xs ys)

-- below one slot, whose number goes in front
pub adds-slot : (more : List (List ℕ)) (front pushed below left : List ℕ) (at : ℕ) (old new : Kept) → pushed ≡ front ++ at ∷ [] → AddsWays more pushed below old new
    → (below ≡ front ++ at ∷ [] → left ≡ front) → AddsWays (map (λ rest. at ∷ rest) more) front left old new
adds-slot more front pushed below left at old new push adds pop = record {
  same = pop (adds.same ∙ push);
  ways = λ ways has. subst (λ (added : List (List ℕ)). HasWays new (ways ++ added)) (ap (λ f. fronted f more) push ∙ fronted-slot front at more) (adds.ways ways has);
}

ways-before : (first : ℕ) (x : SlotView) (rest : States)
    → ways_from first (slots_of (before x rest)) ≡ map (λ way. first ∷ way) (ways_in x) ++ ways_from (suc first) (slots_of rest)
ways-before first (leaf_view leaf present) rest = refl
ways-before first (container_view tag tally inner) rest = refl

-- the first slots, so many, are walked
pub record Walked (slots : List Slot) (front left : List ℕ) (old now : Kept) (i : ℕ) : Type 0 where
  pub done : List (List ℕ)
  pub adds : AddsWays done front left old now
  pub whole : done ++ ways_from i (slots_of (states_of (drop i slots))) ≡ ways_from 0 (slots_of (states_of slots))

pub walk-begun : (slots : List Slot) (front : List ℕ) (old : Kept) → Walked slots front front old old 0
walk-begun slots front old = record {
  done = [];
  adds = record { same = refl; ways = λ ways has. subst (λ (w : List (List ℕ)). HasWays old w) (sym (append-nil ways)) has };
  whole = refl;
}

pub walk-more : (slots : List Slot) (front left next : List ℕ) (old now new : Kept) (i : ℕ) (x : Slot) → i < length slots → x ≡ get_or slots i x
    → Walked slots front left old now i → AddsWays (map (λ rest. i ∷ rest) (ways_in (view_of x))) left next now new → Walked slots front next old new (i + 1)
walk-more slots front left next old now new i x within is h adds =
    let here = map (λ rest. i ∷ rest) (ways_in (view_of x)) in
    let after : suc i ≡ i + 1 = omega arith in record {
      done = h.done ++ here;
      adds = record {
        same = adds.same ∙ h.adds.same;
        ways = λ ways has.
            subst (λ (w : List (List ℕ)). HasWays new w)
            (append-assoc ways (fronted front h.done) (fronted left here)
            ∙ ap (λ f. ways ++ (fronted front h.done ++ fronted f here)) h.adds.same
            ∙ ap (λ added. ways ++ added) (sym (fronted-append front h.done here)))
            (adds.ways (ways ++ fronted front h.done) (h.adds.ways ways has));
      };
      whole = append-assoc h.done here (ways_from (i + 1) (slots_of (states_of (drop (i + 1) slots))))
          ∙ ap (λ k. h.done ++ (here ++ ways_from k (slots_of (states_of (drop (i + 1) slots))))) (sym after)
          ∙ ap (λ w. h.done ++ w) (sym (ways-before i (view_of x) (states_of (drop (i + 1) slots))))
          ∙ ap (λ s. h.done ++ ways_from i (slots_of s)) (sym (states_here slots i x within is))
          ∙ h.whole;
    }

pub walk-ended : (slots : List Slot) (front left : List ℕ) (old now : Kept) (i : ℕ) → length slots ≤ i → Walked slots front left old now i
    → AddsWays (ways_from 0 (slots_of (states_of slots))) front left old now
walk-ended slots front left old now i past h =
    subst (λ (w : List (List ℕ)). AddsWays w front left old now)
    (sym (append-nil h.done) ∙ ap (λ s. h.done ++ ways_from i (slots_of s)) (sym (states_end slots i past)) ∙ h.whole)
    h.adds

fronted-none : (ways : List (List ℕ)) → fronted [] ways ≡ ways
fronted-none [] = refl
fronted-none (way ∷ ways) = ap (λ more. way ∷ more) (fronted-none ways)

-- all of them, behind nothing
pub walk-all : (more : List (List ℕ)) (front left : List ℕ) (old new : Kept) → front ≡ [] → HasWays old [] → AddsWays more front left old new → HasWays new more
walk-all more front left old new none has adds =
    subst (λ (w : List (List ℕ)). HasWays new w) (ap (λ f. fronted f more) none ∙ fronted-none more) (adds.ways [] has)
