-- Paired moves by places are those of the definitions.
use Rattle.std.specs.List.{cons_option}
use Rattle.std.proofs.Common.{◌≡◌, ◌∙◌, refl, ap, sym, cond, ℕ, zero, suc, ◌+◌, ◌≤◌, ◌<◌, ◌==◌, List, [], ◌∷◌, Bool, true, false, Option, Some, None, option_map, option_and_then, slice_get, filter, filter_map, map, arith, if◌then◌else◌}
use Rattle.std.proofs.lemmas.Bool.{eq-eqb}
use Rattle.redl_tree.specs.Revisions.Moves.{Edge, from_start, from_end, to_start, to_end, Marking, Range, same_edge, only_one, with_name, with_id, range_from, range_with_id, range_with_name, pair_from, pair_with_name, pair_of, place_of, by_places, paired_moves}
use Rattle.redl_moves.specs.Marks.{RisesFrom}
use Rattle.redl_moves.specs.Keys.{has_key}
use Rattle.redl_moves.specs.declared.range_index.Span.{Span}
use Rattle.redl_moves.specs.Places.{places_from, only_place, are_range, span_between, span_from, span_with_id, span_with_name, move_from, move_with_name, move_begun, moves_by_place}
use Rattle.redl_moves.specs.declared.marker_index.Key.TheVariants.{Id, Name}

-- ---- lists

-- the only one of a list, where another list gives its items
pub only_one-map : {X Y : Type 0} (f : X → Option Y) (xs : List X) (ys : List Y) → map f xs ≡ map Some ys →
    option_and_then f (only_one xs) ≡ only_one ys
only_one-map f [] [] e = refl
only_one-map f [] (y ∷ ys) e = absurd (cc)
only_one-map f (x ∷ []) [] e = absurd (cc)
only_one-map f (x ∷ []) (y ∷ []) e = cc
only_one-map f (x ∷ []) (y ∷ z ∷ ys) e = absurd (cc)
only_one-map f (x ∷ w ∷ xs) [] e = absurd (cc)
only_one-map f (x ∷ w ∷ xs) (y ∷ []) e = absurd (cc)
only_one-map f (x ∷ w ∷ xs) (y ∷ z ∷ ys) e = refl

-- what g makes of the items that h gives
pub map-filter_map : {X Y Z : Type 0} (g : Y → Z) (h : X → Option Y) (k : X → Option Z) → ((x : X) → option_map g (h x) ≡ k x) →
    (xs : List X) → map g (filter_map h xs) ≡ filter_map k xs
map-filter_map g h k each [] = refl
map-filter_map {Y = Y} g h k each (x ∷ xs) = by (h x) ∙ ap (λ o. cons_option o (map g (filter_map h xs))) (each x) ∙ ap (cons_option (k x)) (map-filter_map g h k each xs)
  where
    by : (a : Option Y) → map g (cons_option a (filter_map h xs)) ≡ cons_option (option_map g a) (map g (filter_map h xs))
    by None = refl
    by (Some y) = refl

-- ---- places

module _ (test : Marking → Bool) (whole : List Marking) where
  -- the markers at the places of those that pass are those that pass
  places-filter : (place : ℕ) (marks : List Marking) → ((i : ℕ) → slice_get marks i ≡ slice_get whole (place + i)) →
      map (slice_get whole) (places_from place test marks) ≡ map Some (filter test marks)
  places-filter place [] here = refl
  places-filter place (mark ∷ marks) here =
      by (test mark) (ap (slice_get whole) (place_is place) ∙ sym (here 0))
      (places-filter (place + 1) marks (λ i. here (suc i) ∙ ap (slice_get whole) (next place i)))
    where
      place_is : (n : ℕ) → n ≡ n + 0
      place_is n = omega arith

      next : (n i : ℕ) → n + suc i ≡ (n + 1) + i
      next n i = omega arith

      by : (b : Bool) → slice_get whole place ≡ Some mark →
          map (slice_get whole) (places_from (place + 1) test marks) ≡ map Some (filter test marks) →
          map (slice_get whole) (if b then place ∷ places_from (place + 1) test marks else places_from (place + 1) test marks)
          ≡ map Some (cond b (mark ∷ filter test marks) (filter test marks))
      by true own rest = ap (λ m. m ∷ map (slice_get whole) (places_from (place + 1) test marks)) own ∙ ap (λ ms. Some mark ∷ ms) rest
      by false own rest = rest

from_start_on : (i : ℕ) → i ≡ 0 + i
from_start_on i = omega arith

-- the only marker that passes is at the only place of one that passes
pub only_one-place : (test : Marking → Bool) (marks : List Marking) →
    only_one (filter test marks) ≡ option_and_then (slice_get marks) (only_place test marks)
only_one-place test marks =
    sym (only_one-map (slice_get marks) (places_from 0 test marks) (filter test marks) (places-filter test marks 0 marks (λ i. ap (slice_get marks) (from_start_on i))))

-- ---- positions that rise

other_at : (m n : ℕ) → m < n → (m == n) ≡ false
other_at m n h = grind arith

one_more : (n : ℕ) → 1 + n ≡ suc n
one_more n = omega arith

-- the marker at a place is found there by its position
pub place-at : (at : ℕ) (marks : List Marking) (i : ℕ) (mark : Marking) → RisesFrom at marks → slice_get marks i ≡ Some mark →
    (at ≤ mark.at) × (place_of marks mark.at ≡ i)
place-at at [] i mark rises e = absurd (cc)
place-at at (own ∷ marks) zero mark rises e =
    let is : own ≡ mark = cc in (
      omega (arith, rises.0, ap (λ (m : Marking). m.at) is),
      ap (λ (m : Marking). place_of (own ∷ marks) m.at) (sym is) ∙ ap (λ b. if b then 0 else 1 + place_of marks own.at) (eq-eqb own.at own.at refl),
    )
place-at at (own ∷ marks) (suc i) mark rises e =
    let later = place-at (own.at + 1) marks i mark rises.1 e in (
      omega (arith, rises.0, later.0),
      ap (λ b. if b then 0 else 1 + place_of marks mark.at) (other_at own.at mark.at (omega (arith, later.0))) ∙ ap (λ n. 1 + n) later.1 ∙ one_more i,
    )

-- ---- ranges and moves

abbrev span : List Marking → Range → Span
span marks range = record { start = place_of marks range.start.at; end = place_of marks range.end.at }

module _ (marks : List Marking) (rises : RisesFrom 0 marks) where
  between : (i j : ℕ) (a b : Option Marking) → slice_get marks i ≡ a → slice_get marks j ≡ b →
      option_map (span marks) (range_from a b) ≡ span_between i j a b
  between i j None b p q = refl
  between i j (Some start) None p q = refl
  between i j (Some start) (Some end) p q = by (are_range start end)
    where
      spans : span marks (record { start = start; end = end }) ≡ record { start = i; end = j }
      spans = ap (λ k. record { start = k; end = place_of marks end.at }) (place-at 0 marks i start rises p).1
          ∙ ap (λ k. record { start = i; end = k }) (place-at 0 marks j end rises q).1

      by : (t : Bool) → option_map (span marks) (if t then Some (record { start = start; end = end }) else None)
          ≡ (if t then Some (record { start = i; end = j }) else None)
      by true = ap Some spans
      by false = refl

  from_places : (a b : Option ℕ) →
      option_map (span marks) (range_from (option_and_then (slice_get marks) a) (option_and_then (slice_get marks) b)) ≡ span_from marks a b
  from_places None b = refl
  from_places (Some i) None = none (slice_get marks i)
    where
      none : (m : Option Marking) → option_map (span marks) (range_from m None) ≡ None
      none None = refl
      none (Some m) = refl
  from_places (Some i) (Some j) = between i j (slice_get marks i) (slice_get marks j) refl refl

  range-id : (start end : Edge) (id : List ℕ) → option_map (span marks) (range_with_id start end marks id) ≡ span_with_id start end marks id
  range-id start end id =
      ap (λ o. option_map (span marks) (range_from o (only_one (with_id end id marks)))) (only_one-place (has_key Id start id) marks)
      ∙ ap (λ o. option_map (span marks) (range_from (option_and_then (slice_get marks) (only_place (has_key Id start id) marks)) o)) (only_one-place (has_key Id end id) marks)
      ∙ from_places (only_place (has_key Id start id) marks) (only_place (has_key Id end id) marks)

  range-name : (start end : Edge) (name : List ℕ) → option_map (span marks) (range_with_name start end marks name) ≡ span_with_name start end marks name
  range-name start end name = by (only_one (with_name start name marks)) ∙ ap (option_and_then (λ mark. span_with_id start end marks mark.id)) (only_one-place (has_key Name start name) marks)
    where
      by : (o : Option Marking) → option_map (span marks) (option_and_then (λ mark. range_with_id start end marks mark.id) o) ≡ option_and_then (λ mark. span_with_id start end marks mark.id) o
      by None = refl
      by (Some mark) = range-id start end mark.id

  pub pair-name : (name : List ℕ) → option_map (by_places marks) (pair_with_name marks name) ≡ move_with_name marks name
  pair-name name =
      both (range_with_name from_start from_end marks name) (range_with_name to_start to_end marks name)
      ∙ ap (λ o. move_from o (option_map (span marks) (range_with_name to_start to_end marks name))) (range-name from_start from_end name)
      ∙ ap (move_from (span_with_name from_start from_end marks name)) (range-name to_start to_end name)
    where
      both : (a b : Option Range) → option_map (by_places marks) (pair_from a b) ≡ move_from (option_map (span marks) a) (option_map (span marks) b)
      both None b = refl
      both (Some a) None = refl
      both (Some a) (Some b) = refl

  pair-mark : (mark : Marking) → option_map (by_places marks) (pair_of marks mark) ≡ move_begun from_start marks mark
  pair-mark mark = by (same_edge mark.edge from_start) mark.name
    where
      by : (b : Bool) (name : Option (List ℕ)) →
          option_map (by_places marks) (if b then option_and_then (pair_with_name marks) name else None)
          ≡ (if b then option_and_then (move_with_name marks) name else None)
      by false name = refl
      by true None = refl
      by true (Some name) = pair-name name

  -- the paired moves are those by places
  pub paired-by_place : paired_moves marks ≡ moves_by_place marks
  paired-by_place = map-filter_map (by_places marks) (pair_of marks) (move_begun from_start marks) pair-mark marks
