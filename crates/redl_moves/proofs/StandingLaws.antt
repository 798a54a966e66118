-- The move of a member is the one that the list of open moves has at the number of markers before it.
use Rattle.std.proofs.Common.{◌≡◌, ◌∙◌, refl, ap, sym, cond, ℕ, zero, suc, ◌+◌, ◌≤◌, List, [], ◌∷◌, ◌++◌, Bool, true, false, ◌&&◌, not, nat_lt, Option, Some, None, option_map, option_and_then, option_to_list, slice_get, filter, filter_map, take, length, arith, append_assoc, if◌then◌else◌}
use Rattle.std.specs.List.{cons_option}
use Rattle.std.proofs.lemmas.List.{append-nil}
use Rattle.redl_tree.specs.Revisions.Moves.{Edge, from_start, from_end, to_start, to_end, Marking, Range, Pair, Move, same_edge, only_one, with_name, with_id, range_from, range_with_id, range_with_name, pair_from, pair_with_name, place_of, by_places}
use Rattle.redl_moves.specs.Marks.{RisesFrom}
use Rattle.redl_moves.specs.Keys.{has_key}
use Rattle.redl_moves.specs.Places.{only_place, move_with_name, move_begun}
use Rattle.redl_moves.specs.Opens.{start_of, is_open_at, or_this, find_last, opens_over}
use Rattle.redl_moves.specs.Standing.{range_on, pair_begun, pair_open, before}
use Rattle.redl_moves.specs.declared.marker_index.Key.TheVariants.{Id}
use Rattle.redl_moves.specs.declared.opens.Side.{Side}
use Rattle.redl_moves.specs.declared.opens.Side.TheVariants.{Source, Target}
use Rattle.redl_moves.proofs.PlaceLaws.{only_one-place, place-at, pair-name}

-- ---- the list of open moves

begun-more : (had : List Move) (own : Option Move) (rest : List Move) → (had ++ option_to_list own) ++ rest ≡ had ++ cons_option own rest
begun-more had None rest = append_assoc had [] rest
begun-more had (Some m) rest = append_assoc had (m ∷ []) rest

module _ (side : Side) (whole : List Marking) where
  pub opens-get : (begun : List Move) (place : ℕ) (marks : List Marking) (i : ℕ) → i ≤ length marks →
      slice_get (opens_over side whole begun place marks) i
      ≡ Some (find_last (is_open_at side (place + i)) (begun ++ filter_map (move_begun (start_of side) whole) (take i marks)))
  opens-get begun place [] zero h = ap Some (here begun place)
    where
      here : (begun : List Move) (place : ℕ) → find_last (is_open_at side place) begun ≡ find_last (is_open_at side (place + 0)) (begun ++ [])
      here begun place = ap (find_last (is_open_at side place)) (sym (append-nil begun)) ∙ ap (λ n. find_last (is_open_at side n) (begun ++ [])) (omega arith)
  opens-get begun place (mark ∷ marks) zero h = ap Some (here begun place)
    where
      here : (begun : List Move) (place : ℕ) → find_last (is_open_at side place) begun ≡ find_last (is_open_at side (place + 0)) (begun ++ [])
      here begun place = ap (find_last (is_open_at side place)) (sym (append-nil begun)) ∙ ap (λ n. find_last (is_open_at side n) (begun ++ [])) (omega arith)
  opens-get begun place [] (suc i) h = absurd (omega (arith, h))
  opens-get begun place (mark ∷ marks) (suc i) h =
      let own = move_begun (start_of side) whole mark in
      let rest = filter_map (move_begun (start_of side) whole) (take i marks) in
      opens-get (begun ++ option_to_list own) (place + 1) marks i (omega (arith, h))
      ∙ ap (λ n. Some (find_last (is_open_at side n) ((begun ++ option_to_list own) ++ rest))) (next place i)
      ∙ ap (λ ms. Some (find_last (is_open_at side (place + suc i)) ms)) (begun-more begun own rest)
    where
      next : (p i : ℕ) → (p + 1) + i ≡ p + suc i
      next p i = omega arith

-- ---- markers before a position

module _ (at : ℕ) where
  none-before : (from : ℕ) (marks : List Marking) → RisesFrom from marks → at ≤ from → filter (λ m. nat_lt m.at at) marks ≡ []
  none-before from [] rises h = refl
  none-before from (mark ∷ marks) rises h =
      ap (λ b. cond b (mark ∷ filter (λ m. nat_lt m.at at) marks) (filter (λ m. nat_lt m.at at) marks)) (not_before mark.at (omega (arith, rises.0, h)))
      ∙ none-before (mark.at + 1) marks rises.1 (omega (arith, rises.0, h))
    where
      not_before : (n : ℕ) → at ≤ n → nat_lt n at ≡ false
      not_before n h = grind arith

  -- those before a position are the first ones
  pub filter-before : (from : ℕ) (marks : List Marking) → RisesFrom from marks → filter (λ m. nat_lt m.at at) marks ≡ take (before at marks) marks
  filter-before from [] rises = refl
  filter-before from (mark ∷ marks) rises = by (nat_lt mark.at at) refl (filter-before (mark.at + 1) marks rises.1) (none-before (mark.at + 1) marks rises.1)
    where
      past : (n : ℕ) → nat_lt n at ≡ false → at ≤ n + 1
      past n e = grind arith

      one : (n : ℕ) → suc n ≡ 1 + n
      one n = omega arith

      by : (b : Bool) → nat_lt mark.at at ≡ b → filter (λ m. nat_lt m.at at) marks ≡ take (before at marks) marks →
          (at ≤ mark.at + 1 → filter (λ m. nat_lt m.at at) marks ≡ []) →
          cond b (mark ∷ filter (λ m. nat_lt m.at at) marks) (filter (λ m. nat_lt m.at at) marks) ≡ take (if b then 1 + before at marks else 0) (mark ∷ marks)
      by true e ih none = ap (λ ms. mark ∷ ms) ih ∙ ap (λ n. take n (mark ∷ marks)) (one (before at marks))
      by false e ih none = none (past mark.at e)

  -- a marker comes before a position where its place is below their number
  pub place-before : (from : ℕ) (marks : List Marking) (i : ℕ) (mark : Marking) → RisesFrom from marks → slice_get marks i ≡ Some mark →
      nat_lt mark.at at ≡ nat_lt i (before at marks)
  place-before from [] i mark rises e = absurd (cc)
  place-before from (own ∷ marks) zero mark rises e =
      let is : own ≡ mark = cc in
      ap (λ (m : Marking). nat_lt m.at at) (sym is) ∙ by (nat_lt own.at at)
    where
      by : (b : Bool) → b ≡ nat_lt 0 (if b then 1 + before at marks else 0)
      by true = grind arith
      by false = refl
  place-before from (own ∷ marks) (suc i) mark rises e =
      by (nat_lt own.at at) refl (place-before (own.at + 1) marks i mark rises.1 e) (place-at (own.at + 1) marks i mark rises.1 e).0
    where
      more : (n k : ℕ) → nat_lt n k ≡ nat_lt (suc n) (1 + k)
      more n k = grind arith

      past : (m n : ℕ) → nat_lt m at ≡ false → m + 1 ≤ n → nat_lt n at ≡ nat_lt (suc i) 0
      past m n e h = grind arith

      by : (b : Bool) → nat_lt own.at at ≡ b → nat_lt mark.at at ≡ nat_lt i (before at marks) → own.at + 1 ≤ mark.at →
          nat_lt mark.at at ≡ nat_lt (suc i) (if b then 1 + before at marks else 0)
      by true e ih h = ih ∙ more i (before at marks)
      by false e ih h = past own.at mark.at e h

-- ---- the ends of ranges are markers

and_then-some : {X Y : Type 0} (f : X → Option Y) (o : Option X) (y : Y) → option_and_then f o ≡ Some y → (x : X) × (f x ≡ Some y)
and_then-some f None y e = absurd (cc)
and_then-some f (Some x) y e = (x, e)

range_from-some : (a b : Option Marking) (range : Range) → range_from a b ≡ Some range → b ≡ Some range.end
range_from-some None b range e = absurd (cc)
range_from-some (Some start) None range e = absurd (cc)
range_from-some (Some start) (Some end) range e = by (nat_lt start.at end.at && not start.loose && not end.loose) e
  where
    by : (t : Bool) → (if t then Some (record { start = start; end = end }) else None) ≡ Some range → Some end ≡ Some range.end
    by true e = let is : record { start = start; end = end } ≡ range = cc in ap (λ (r : Range). Some r.end) is
    by false e = absurd (cc)

pub range-end : (start end : Edge) (marks : List Marking) (name : List ℕ) (range : Range) → range_with_name start end marks name ≡ Some range →
    (i : ℕ) × (slice_get marks i ≡ Some range.end)
range-end start end marks name range e =
    let named = and_then-some (λ (m : Marking). range_with_id start end marks m.id) (only_one (with_name start name marks)) range e in
    let id = named.0.id in
    let only = range_from-some (only_one (with_id start id marks)) (only_one (with_id end id marks)) range named.1 in
    and_then-some (slice_get marks) (only_place (has_key Id end id) marks) range.end (sym (only_one-place (has_key Id end id) marks) ∙ only)

pub pair_from-some : (a b : Option Range) (pair : Pair) → pair_from a b ≡ Some pair → (a ≡ Some pair.source) × (b ≡ Some pair.target)
pair_from-some None b pair e = absurd (cc)
pair_from-some (Some x) None pair e = absurd (cc)
pair_from-some (Some x) (Some y) pair e =
    let is : record { source = x; target = y } ≡ pair = cc in (ap (λ (p : Pair). Some p.source) is, ap (λ (p : Pair). Some p.target) is)

-- ---- the move of a member

-- what is the last of these is the last of those
last-map : {X Y Z : Type 0} (g : Y → Z) (h : X → Option Y) (k : X → Option Z) (test : Y → Bool) (other : Z → Bool) →
    ((x : X) → option_map g (h x) ≡ k x) → ((x : X) (y : Y) → h x ≡ Some y → test y ≡ other (g y)) →
    (xs : List X) → option_map g (find_last test (filter_map h xs)) ≡ find_last other (filter_map k xs)
last-map g h k test other same each [] = refl
last-map {Y = Y} g h k test other same each (x ∷ xs) =
    by (h x) refl (last-map g h k test other same each xs) ∙ ap (λ o. find_last other (cons_option o (filter_map k xs))) (same x)
  where
    this : (b : Bool) (y : Y) (o : Option Y) → option_map g (or_this b y o) ≡ or_this b (g y) (option_map g o)
    this true y None = refl
    this false y None = refl
    this b y (Some z) = refl

    by : (o : Option Y) → h x ≡ o → option_map g (find_last test (filter_map h xs)) ≡ find_last other (filter_map k xs) →
        option_map g (find_last test (cons_option o (filter_map h xs))) ≡ find_last other (cons_option (option_map g o) (filter_map k xs))
    by None e ih = ih
    by (Some y) e ih =
        this (test y) y (find_last test (filter_map h xs)) ∙ ap (λ b. or_this b (g y) (option_map g (find_last test (filter_map h xs)))) (each x y e)
        ∙ ap (or_this (other (g y)) (g y)) ih

module _ (marks : List Marking) (rises : RisesFrom 0 marks) (at : ℕ) (apart : (i : ℕ) (mark : Marking) → slice_get marks i ≡ Some mark → mark.at ≡ at → ⊥) where
  end-open : (end : Marking) (i : ℕ) → slice_get marks i ≡ Some end → nat_lt at end.at ≡ not (nat_lt (place_of marks end.at) (before at marks))
  end-open end i there =
      other end.at (apart i end there)
      ∙ ap not (place-before at 0 marks i end rises there ∙ ap (λ n. nat_lt n (before at marks)) (sym (place-at 0 marks i end rises there).1))
    where
      other : (n : ℕ) → (n ≡ at → ⊥) → nat_lt at n ≡ not (nat_lt n at)
      other n h = grind arith

  pair-open : (side : Side) (name : List ℕ) (pair : Pair) → pair_with_name marks name ≡ Some pair →
      nat_lt at (range_on side pair).end.at ≡ is_open_at side (before at marks) (by_places marks pair)
  pair-open Source name pair e =
      let both = pair_from-some (range_with_name from_start from_end marks name) (range_with_name to_start to_end marks name) pair e in
      let there = range-end from_start from_end marks name pair.source both.0 in
      end-open pair.source.end there.0 there.1
  pair-open Target name pair e =
      let both = pair_from-some (range_with_name from_start from_end marks name) (range_with_name to_start to_end marks name) pair e in
      let there = range-end to_start to_end marks name pair.target both.1 in
      end-open pair.target.end there.0 there.1

  begun-open : (side : Side) (mark : Marking) (pair : Pair) → pair_begun (start_of side) marks mark ≡ Some pair →
      nat_lt at (range_on side pair).end.at ≡ is_open_at side (before at marks) (by_places marks pair)
  begun-open side mark pair e = by (same_edge mark.edge (start_of side)) mark.name e
    where
      by : (b : Bool) (name : Option (List ℕ)) → (if b then option_and_then (pair_with_name marks) name else None) ≡ Some pair →
          nat_lt at (range_on side pair).end.at ≡ is_open_at side (before at marks) (by_places marks pair)
      by false name e = absurd (cc)
      by true None e = absurd (cc)
      by true (Some name) e = pair-open side name pair e

  begun-places : (edge : Edge) (mark : Marking) → option_map (by_places marks) (pair_begun edge marks mark) ≡ move_begun edge marks mark
  begun-places edge mark = by (same_edge mark.edge edge) mark.name
    where
      by : (b : Bool) (name : Option (List ℕ)) →
          option_map (by_places marks) (if b then option_and_then (pair_with_name marks) name else None)
          ≡ (if b then option_and_then (move_with_name marks) name else None)
      by false name = refl
      by true None = refl
      by true (Some name) = pair-name marks rises name

  -- THE OPEN MOVE at a position is in the list, at the number of markers before the position
  pub open-in_list : (side : Side) → before at marks ≤ length marks →
      slice_get (opens_over side marks [] 0 marks) (before at marks) ≡ Some (option_map (by_places marks) (pair_open side at marks))
  open-in_list side within =
      let k = before at marks in
      let begun = move_begun (start_of side) marks in
      opens-get side marks [] 0 marks k within
      ∙ ap (λ n. Some (find_last (is_open_at side n) (filter_map begun (take k marks)))) (from_zero k)
      ∙ ap Some
      (sym (ap (λ ms. option_map (by_places marks) (find_last (λ pair. nat_lt at (range_on side pair).end.at) (filter_map (pair_begun (start_of side) marks) ms)))
      (filter-before at 0 marks rises)
      ∙ last-map (by_places marks) (pair_begun (start_of side) marks) begun (λ pair. nat_lt at (range_on side pair).end.at) (is_open_at side k)
      (begun-places (start_of side)) (begun-open side) (take k marks)))
    where
      from_zero : (n : ℕ) → 0 + n ≡ n
      from_zero n = omega arith
