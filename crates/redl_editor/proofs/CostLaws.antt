-- What making the touched leaves takes is what setting may cost.
use Rattle.std.proofs.Common.{◌≡◌, ◌<◌, ◌≤◌, ◌+◌, ◌-◌, ◌*◌, ◌==◌, ◌||◌, ◌&&◌, not, ℕ, zero, suc, List, [], ◌∷◌, ◌++◌, length, get_or, drop, map, slice_get, Bool, true, false, true≢false, ◌⊎◌, inl, inr, refl, sym, ap, subst, ◌∙◌, arith, if◌then◌else◌}
use Rattle.std.proofs.lemmas.List.{get_or_append_left, get_or-append-add, map-append, drop_more, drop_all, length-map}
use Rattle.std.proofs.lemmas.List.Sums.{sum_by-cons}
use Rattle.std.proofs.lemmas.Bool.{eqb-true, eq-eqb, or_left, or_right}
use Rattle.std.specs.List.Sorted.{IsStrictlyIncreasing}
use Rattle.redl_leaves.specs.Finds.{size_at}
use Rattle.redl_laws.proofs.Leaves.Lending.{leaf-numbered}
use Rattle.redl_laws.proofs.Leaves.Places.{list-count}
use Rattle.redl_tree.specs.Leaves.Leaf.{leaf_list, leaf_count, leaf_size, leaves}
use Rattle.redl_tree.specs.Leaves.Settings.{has_member, slots_cost, setting_cost}
use Rattle.redl_tree.specs.Leaves.Slots.{Leaf, Slots, no_slots, leaf_slot, container_slot}
use Rattle.redl_tree.specs.Leaves.Ways.{ways, leaf_at}
use Rattle.redl_tree.specs.Model.Nodes.{Nodes, no_nodes, bytes, element}
use Rattle.redl_tree.specs.Model.View.{Element}
use Rattle.redl_editor.proofs.CoverLaws.{some-holder, holds-within, way-numbered}
use Rattle.redl_editor.specs.Costs.{parts_cost}
use Rattle.redl_editor.specs.Holdings.{HoldsOf, is_rev, is_touched, slots_hold, some_held}
use Rattle.redl_editor.specs.Inside.Makes.{sizes_of}
use Rattle.redl_editor.specs.declared.holding.Held.{Held}

-- ---- numbers of a list that are chosen, each once

-- these numbers rise, and none is below the first
abbrev RiseFrom : ℕ → List ℕ → Type 0
RiseFrom first [] = Unit {0}
RiseFrom first (n ∷ later) = (first ≤ n) × RiseFrom (suc n) later

rise-weaker : (first other : ℕ) (ns : List ℕ) → other ≤ first → RiseFrom first ns → RiseFrom other ns
rise-weaker first other [] le h = tt
rise-weaker first other (n ∷ later) le h = (omega (arith, le, h.0), h.1)

rises-from : (first : ℕ) (ns : List ℕ) → IsStrictlyIncreasing ns → (0 < length ns → first ≤ get_or ns 0 0) → RiseFrom first ns
rises-from first [] rises from = tt
rises-from first (n ∷ later) rises from = (
  from (omega arith),
  rises-from (suc n) later
      (λ k within.
      let e : suc k + 1 ≡ suc (k + 1) = omega arith in
      subst (λ j. get_or (n ∷ later) (suc k) 0 < get_or (n ∷ later) j 0) e (rises (suc k) (omega (arith, within))))
      (λ some. let here : n < get_or later 0 0 = rises 0 (omega (arith, some)) in omega (arith, here)),
)

-- the sum of the weights of the leaves with these numbers, where the first of these weights is that of leaf `first`
abbrev chosen : List ℕ → ℕ → List ℕ → ℕ
chosen weights first [] = 0
chosen weights first (n ∷ later) = get_or weights (n - first) 0 + chosen weights first later

abbrev total : List ℕ → ℕ
total [] = 0
total (w ∷ later) = w + total later

none-chosen : (first : ℕ) (ns : List ℕ) → chosen [] first ns ≡ 0
none-chosen first [] = refl
none-chosen first (n ∷ later) = omega (arith, none-chosen first later)

chosen-later : (w : ℕ) (weights : List ℕ) (first : ℕ) (ns : List ℕ) → RiseFrom (suc first) ns → chosen (w ∷ weights) first ns ≡ chosen weights (suc first) ns
chosen-later w weights first [] h = refl
chosen-later w weights first (n ∷ later) h =
    let here : n - first ≡ suc (n - suc first) = omega (arith, h.0) in
    ap (λ k. get_or (w ∷ weights) k 0 + chosen (w ∷ weights) first later) here
    ∙ ap (λ m. get_or weights (n - suc first) 0 + m) (chosen-later w weights first later (rise-weaker (suc n) (suc first) later (omega (arith, h.0)) h.1))

chosen-le : (weights : List ℕ) (first : ℕ) (ns : List ℕ) → RiseFrom first ns → chosen weights first ns ≤ total weights
chosen-le [] first ns h = omega (arith, none-chosen first ns)
chosen-le (w ∷ weights) first [] h = omega arith
chosen-le (w ∷ weights) first (n ∷ later) h = at (order first n h.0) (chosen-le weights (suc first))
  where
    order : (a b : ℕ) → a ≤ b → (a ≡ b) ⊎ (suc a ≤ b)
    order zero zero le = inl refl
    order zero (suc b) le = inr (omega arith)
    order (suc a) zero le = absurd (omega (arith, le))
    order (suc a) (suc b) le = elim (order a b (omega (arith, le))) as (λ _. (suc a ≡ suc b) ⊎ (suc (suc a) ≤ suc b)) [ inl e ↦ inl (ap suc e) | inr l ↦ inr (omega (arith, l)) ]

    at : (first ≡ n) ⊎ (suc first ≤ n) → ((ns : List ℕ) → RiseFrom (suc first) ns → chosen weights (suc first) ns ≤ total weights)
        → chosen (w ∷ weights) first (n ∷ later) ≤ w + total weights
    at (inl e) rest_le =
        let zero_is : n - first ≡ 0 = omega (arith, e) in
        let rest = chosen-later w weights first later (rise-weaker (suc n) (suc first) later (omega (arith, e)) h.1) in
        let more = rest_le later (rise-weaker (suc n) (suc first) later (omega (arith, e)) h.1) in
        omega (arith, ap (λ k. get_or (w ∷ weights) k 0) zero_is, rest, more)
    at (inr l) rest_le =
        let rise : RiseFrom (suc first) (n ∷ later) = (l, h.1) in
        omega (arith, chosen-later w weights first (n ∷ later) rise, rest_le (n ∷ later) rise)

-- ---- leaves that hold a member of a revision that is set, by their sizes

abbrev weight : (ℕ → Bool) → Leaf → ℕ
weight is_set leaf = if has_member is_set leaf.nodes then leaf_size leaf else 0

abbrev weights : (ℕ → Bool) → Slots → List ℕ
weights is_set slots = map (weight is_set) (leaf_list slots)

total-append : (xs ys : List ℕ) → total (xs ++ ys) ≡ total xs + total ys
total-append [] ys = omega arith
total-append (x ∷ xs) ys = omega (arith, total-append xs ys)

weight-cost : (b : Bool) (size more : ℕ) → (if b then size else 0) ≤ (if b then size + more else 0)
weight-cost true size more = omega arith
weight-cost false size more = omega arith

weights-cost : (is_set : ℕ → Bool) (depth : ℕ) (slots : Slots) → total (weights is_set slots) ≤ slots_cost is_set depth slots
weights-cost is_set depth no_slots = omega arith
weights-cost is_set depth (leaf_slot leaf rest) =
    omega (arith, weight-cost (has_member is_set leaf.nodes) (leaf_size leaf) (4 * depth), weights-cost is_set depth rest)
weights-cost is_set depth (container_slot tag kids inner rest) =
    omega (
      arith,
      ap total (map-append (weight is_set) (leaf_list inner) (leaf_list rest)),
      total-append (weights is_set inner) (weights is_set rest),
      weights-cost is_set (suc depth) inner,
      weights-cost is_set depth rest,
    )

-- ---- a leaf of which it is noted that it holds one has its size as its weight

rev-is : (rev n : ℕ) → is_rev rev n ≡ true → n ≡ rev
rev-is rev n e = at (not (n == 0)) (n == rev) refl e
  where
    at : (a b : Bool) → (n == rev) ≡ b → (a && b) ≡ true → n ≡ rev
    at true true is h = eqb-true n rev is
    at true false is h = absurd (true≢false (sym h))
    at false b is h = absurd (true≢false (sym h))

member-more : (is_set : ℕ → Bool) (rev : ℕ) → is_set rev ≡ true → (nodes : Nodes) → has_member (is_rev rev) nodes ≡ true → has_member is_set nodes ≡ true
member-more is_set rev one no_nodes h = absurd (true≢false (sym h))
member-more is_set rev one (bytes b rest) h = member-more is_set rev one rest h
member-more is_set rev one (element tag kids rest) h =
    at (is_rev rev tag.rev) refl (has_member (is_rev rev) kids) (member-more is_set rev one kids) (has_member (is_rev rev) rest) (member-more is_set rev one rest) h
  where
    at : (a : Bool) → is_rev rev tag.rev ≡ a → (b : Bool) → (b ≡ true → has_member is_set kids ≡ true) → (c : Bool) → (c ≡ true → has_member is_set rest ≡ true)
        → ((a || b) || c) ≡ true → has_member is_set (element tag kids rest) ≡ true
    at true here b below c after h =
        or_left (is_set tag.rev || has_member is_set kids) (has_member is_set rest)
        (or_left (is_set tag.rev) (has_member is_set kids) (ap is_set (rev-is rev tag.rev here) ∙ one))
    at false here true below c after h =
        or_left (is_set tag.rev || has_member is_set kids) (has_member is_set rest) (or_right (is_set tag.rev) (has_member is_set kids) (below refl))
    at false here false below c after h =
        or_right (is_set tag.rev || has_member is_set kids) (has_member is_set rest) (after h)

-- the size of the leaf with a number
abbrev sizes : Slots → List ℕ
sizes slots = map leaf_size (leaf_list slots)

-- it is noted of a leaf with this number, counted from the first one, that it holds one
record Weighs (is_set : ℕ → Bool) (first : ℕ) (slots : Slots) (n : ℕ) : Type 0 where
  late : first ≤ n
  same : get_or (sizes slots) (n - first) 0 ≡ get_or (weights is_set slots) (n - first) 0

holds-weighs : (is_set : ℕ → Bool) (rev : ℕ) → is_set rev ≡ true → (first : ℕ) (slots : Slots) (n : ℕ) → slots_hold first slots rev n ≡ true → Weighs is_set first slots n
holds-weighs is_set rev one first no_slots n h = absurd (true≢false (sym h))
holds-weighs is_set rev one first (leaf_slot leaf rest) n h =
    at (has_member (is_rev rev) leaf.nodes) refl (first == n) refl (holds-weighs is_set rev one (first + 1) rest n) h
  where
    later : Weighs is_set (first + 1) rest n → Weighs is_set first (leaf_slot leaf rest) n
    later w =
        let here : n - first ≡ suc (n - (first + 1)) = omega (arith, w.late) in record {
          late = omega (arith, w.late);
          same = ap (λ k. get_or (leaf_size leaf ∷ sizes rest) k 0) here ∙ w.same ∙ ap (λ k. get_or (weight is_set leaf ∷ weights is_set rest) k 0) (sym here);
        }

    at : (a : Bool) → has_member (is_rev rev) leaf.nodes ≡ a → (b : Bool) → (first == n) ≡ b → (slots_hold (first + 1) rest rev n ≡ true → Weighs is_set (first + 1) rest n)
        → ((a && b) || slots_hold (first + 1) rest rev n) ≡ true → Weighs is_set first (leaf_slot leaf rest) n
    at true member true is more h =
        let here : n - first ≡ 0 = omega (arith, eqb-true first n is) in record {
          late = omega (arith, eqb-true first n is);
          same = ap (λ k. get_or (leaf_size leaf ∷ sizes rest) k 0) here
              ∙ ap (λ b. if b then leaf_size leaf else 0) (sym (member-more is_set rev one leaf.nodes member))
              ∙ ap (λ k. get_or (weight is_set leaf ∷ weights is_set rest) k 0) (sym here);
        }
    at true member false is more h = later (more h)
    at false member b is more h = later (more h)
holds-weighs is_set rev one first (container_slot tag kids inner rest) n h =
    at (slots_hold first inner rev n) refl (holds-weighs is_set rev one first inner n) (holds-weighs is_set rev one (first + leaf_count inner) rest n) h
  where
    at : (b : Bool) → slots_hold first inner rev n ≡ b → (slots_hold first inner rev n ≡ true → Weighs is_set first inner n)
        → (slots_hold (first + leaf_count inner) rest rev n ≡ true → Weighs is_set (first + leaf_count inner) rest n)
        → (b || slots_hold (first + leaf_count inner) rest rev n) ≡ true → Weighs is_set first (container_slot tag kids inner rest) n
    at true is below more h =
        let w = below is in
        let lt = holds-within first inner rev n is in
        let in_sizes : n - first < length (sizes inner) = omega (arith, lt, w.late, list-count inner, length-map (leaf_list inner) leaf_size) in
        let in_weights : n - first < length (weights is_set inner) = omega (arith, lt, w.late, list-count inner, length-map (leaf_list inner) (weight is_set)) in
        record {
          late = w.late;
          same = ap (λ xs. get_or xs (n - first) 0) (map-append leaf_size (leaf_list inner) (leaf_list rest))
              ∙ get_or_append_left (sizes inner) (sizes rest) 0 (n - first) in_sizes
              ∙ w.same
              ∙ sym (get_or_append_left (weights is_set inner) (weights is_set rest) 0 (n - first) in_weights)
              ∙ ap (λ xs. get_or xs (n - first) 0) (sym (map-append (weight is_set) (leaf_list inner) (leaf_list rest)));
        }
    at false is below more h =
        let w = more h in
        let k = n - (first + leaf_count inner) in
        let by_sizes : n - first ≡ length (sizes inner) + k = omega (arith, w.late, list-count inner, length-map (leaf_list inner) leaf_size) in
        let by_weights : n - first ≡ length (weights is_set inner) + k = omega (arith, w.late, list-count inner, length-map (leaf_list inner) (weight is_set)) in
        record {
          late = omega (arith, w.late);
          same = ap (λ xs. get_or xs (n - first) 0) (map-append leaf_size (leaf_list inner) (leaf_list rest))
              ∙ ap (λ j. get_or (sizes inner ++ sizes rest) j 0) by_sizes
              ∙ get_or-append-add (sizes inner) (sizes rest) k 0
              ∙ w.same
              ∙ sym (get_or-append-add (weights is_set inner) (weights is_set rest) k 0)
              ∙ ap (λ j. get_or (weights is_set inner ++ weights is_set rest) j 0) (sym by_weights)
              ∙ ap (λ xs. get_or xs (n - first) 0) (sym (map-append (weight is_set) (leaf_list inner) (leaf_list rest)));
        }

-- ---- the leaf with a number, by the way to it

size-get : (xs : List Leaf) (k : ℕ) → size_at (slice_get xs k) ≡ get_or (map leaf_size xs) k 0
size-get [] k = refl
size-get (x ∷ xs) zero = refl
size-get (x ∷ xs) (suc k) = size-get xs k

size-numbered : (slots : Slots) (n : ℕ) → n < leaf_count slots → size_at (leaf_at (get_or (ways slots) n []) slots) ≡ get_or (sizes slots) n 0
size-numbered slots n within =
    let way = way-numbered slots n within in
    let is : 0 + n ≡ n = omega arith in
    ap size_at (sym (leaf-numbered (get_or (ways slots) n []) slots way.0))
    ∙ ap (λ k. size_at (slice_get (leaf_list slots) k)) (way.1 ∙ is)
    ∙ size-get (leaf_list slots) n

sizes-chosen : (is_set : ℕ → Bool) (slots : Slots) (ns : List ℕ) → ((n : ℕ) → is_touched ns n ≡ true → Weighs is_set 0 slots n × (n < leaf_count slots))
    → sizes_of (ways slots) slots ns ≡ chosen (weights is_set slots) 0 ns
sizes-chosen is_set slots [] all = refl
sizes-chosen is_set slots (n ∷ later) all =
    let here = all n (or_left (n == n) (is_touched later n) (eq-eqb n n refl)) in
    let is : n - 0 ≡ n = omega arith in
    sum_by-cons (λ leaf. size_at (leaf_at (get_or (ways slots) leaf []) slots)) n later
    ∙ ap (λ m. m + sizes_of (ways slots) slots later) (size-numbered slots n here.1 ∙ ap (λ k. get_or (sizes slots) k 0) (sym is) ∙ here.0.same)
    ∙ ap (λ m. get_or (weights is_set slots) (n - 0) 0 + m) (sizes-chosen is_set slots later (λ m e. all m (or_right (n == m) (is_touched later m) e)))

-- the law: making each leaf once that some revisions touch takes no more than setting them may cost
pub touched-cost : (held : List Held) (revs leaves : List ℕ) → ((leaf : ℕ) → is_touched leaves leaf ≡ some_held held revs leaf) → IsStrictlyIncreasing leaves
    → (slots : Slots) → HoldsOf held slots → (is_set : ℕ → Bool) → ((rev : ℕ) → is_touched revs rev ≡ true → is_set rev ≡ true) → (depth : ℕ)
    → sizes_of (ways slots) slots leaves ≤ slots_cost is_set depth slots
touched-cost held revs leaves touched once slots of is_set listed depth =
    omega (
      arith,
      sizes-chosen is_set slots leaves held-leaf,
      chosen-le (weights is_set slots) 0 leaves (rises-from 0 leaves once (λ some. omega arith)),
      weights-cost is_set depth slots,
    )
  where
    held-leaf : (n : ℕ) → is_touched leaves n ≡ true → Weighs is_set 0 slots n × (n < leaf_count slots)
    held-leaf n e =
        let holder = some-holder held revs n (sym (touched n) ∙ e) in
        let holds = sym (of.holds holder.rev n) ∙ holder.holds in
        let lt = holds-within 0 slots holder.rev n holds in
        (holds-weighs is_set holder.rev (listed holder.rev holder.listed) 0 slots n holds, omega (arith, lt))

-- ---- of all stories

pub cost-here : (is_set : ℕ → Bool) (parts : List Element) (i : ℕ) (part : Element) → i < length parts → part ≡ get_or parts i part
    → parts_cost is_set (drop i parts) ≡ setting_cost is_set (leaves part) + parts_cost is_set (drop (i + 1) parts)
cost-here is_set parts i part lt is =
    ap (parts_cost is_set) (drop_more parts i part lt) ∙ ap (λ p. setting_cost is_set (leaves p) + parts_cost is_set (drop (i + 1) parts)) (sym is)

pub cost-end : (is_set : ℕ → Bool) (parts : List Element) (i : ℕ) → length parts ≤ i → parts_cost is_set (drop i parts) ≡ 0
cost-end is_set parts i past = ap (parts_cost is_set) (drop_all i parts past)
