-- The markers and the moves of a whole sample: the move of a block is the only one with its name and at its positions.
use Rattle.std.proofs.Common.{◌≡◌, ◌≢◌, ◌⊎◌, inl, inr, ℕ, zero, suc, ◌+◌, ◌-◌, ◌^◌, ◌<◌, ◌≤◌, ◌==◌, Bool, true, false, ◌&&◌, ◌||◌, nat_lt, cond, List, [], ◌∷◌, ◌++◌, Some, decimal, refl, ap, ◌∙◌, arith}
use Rattle.std.proofs.lemmas.Bool.{eq-eqb, ne_eqb, lt-ltb, le-ltb, cases_lt}
use Rattle.std.proofs.lemmas.Fmt.{decimal_injective}
use Rattle.std.proofs.lemmas.List.Elements.{filter_map-append}
use Rattle.std.proofs.lemmas.Slice.Eq.{bytes_eq-Decides}
use Rattle.std.specs.List.{filter, filter_map, cons_option, flat_map, range_with_len}
use Rattle.std.specs.Prelude.{bytes_eq, option_and_then}
use Rattle.std.proofs.Math.Bool.{or-true, and-false}
use Rattle.redl_tree.proofs.Reading.SameBytes.{bytes_same}
use Rattle.redl_sound.proofs.Sampled.Blocks.{Form, Plain, Insertion, Deletion, Mark, Both, Properties, Table, Move, form_of}
use Rattle.redl_sound.proofs.Sampled.Moved.{block_of, second, start_at, content_at, end_at, start_mark, end_mark, marks_of, move_with, moves_of, IsAlone}
use Rattle.redl_sound.proofs.Sampled.Own.{past, past_later}
use Rattle.redl_sound.proofs.Sampled.Parts.{one_passes}
use Rattle.redl_tree.specs.Revisions.Moves.{from_start, from_end, to_start, to_end, Marking, Pair, same_edge, has_name, with_id, only_one, range_from, range_with_id, range_with_name, pair_from, pair_with_name, pair_of, is_open_at, is_of_pair}

-- the position of the first tag of the block with this number
abbrev pub start : ℕ → ℕ
start zero = 2
start (suc k) = past (start k) (block_of (form_of k) (decimal k))

pub start_next : (k : ℕ) → start (k + 1) ≡ past (start k) (block_of (form_of k) (decimal k))
start_next k =
    let same : k + 1 ≡ suc k = omega arith in
    ap start same

start_rises : (j d : ℕ) → start j ≤ start (j + d)
start_rises j zero =
    let sum : j + 0 ≡ j = omega arith in
    let same : start (j + 0) ≡ start j = ap start sum in
    omega (arith, same)
start_rises j (suc d) =
    let sum : j + suc d ≡ suc (j + d) = omega arith in
    let same : start (j + suc d) ≡ start (suc (j + d)) = ap start sum in
    omega (arith, same, start_rises j d, past_later (start (j + d)) (block_of (form_of (j + d)) (decimal (j + d))))

-- a block with a move ends before each later one
pub move_before : (j k : ℕ) → j < k → form_of j ≡ Move → start j + 24 ≤ start k
move_before j k less is =
    let next : start (suc j) ≡ start j + 2 + 10 + 2 + 10 = ap (λ f. past (start j) (block_of f (decimal j))) is in
    let sum : suc j + (k - suc j) ≡ k = omega (arith, less) in
    let same : start (suc j + (k - suc j)) ≡ start k = ap start sum in
    omega (arith, next, same, start_rises (suc j) (k - suc j))

-- ---- positions

four_false : (p a b c d : ℕ) → p ≢ a → p ≢ b → p ≢ c → p ≢ d → (((p == a || p == b) || p == c) || p == d) ≡ false
four_false p a b c d e f g h = rw (ne_eqb p a e, ne_eqb p b f, ne_eqb p c g, ne_eqb p d h) refl

first_true : (p b c d : ℕ) → (((p == p || p == b) || p == c) || p == d) ≡ true
first_true p b c d = ap (λ x. ((x || p == b) || p == c) || p == d) (eq-eqb p p refl)

second_true : (p a c d : ℕ) → (((p == a || p == p) || p == c) || p == d) ≡ true
second_true p a c d = ap (λ x. ((p == a || x) || p == c) || p == d) (eq-eqb p p refl) ∙ ap (λ x. (x || p == c) || p == d) (or-true (p == a))

third_true : (p a b d : ℕ) → (((p == a || p == b) || p == p) || p == d) ≡ true
third_true p a b d = ap (λ x. ((p == a || p == b) || x) || p == d) (eq-eqb p p refl) ∙ ap (λ x. x || p == d) (or-true (p == a || p == b))

fourth_true : (p a b c : ℕ) → (((p == a || p == b) || p == c) || p == p) ≡ true
fourth_true p a b c = ap (λ x. ((p == a || p == b) || p == c) || x) (eq-eqb p p refl) ∙ or-true ((p == a || p == b) || p == c)

-- a position outside a block with a move
abbrev IsOutside : ℕ → ℕ → Type 0
IsOutside position at = (position ≤ at) ⊎ (at + 24 ≤ position)

of_none : (position at : ℕ) (digits : List ℕ) → IsOutside position at → is_of_pair position (move_with digits at) ≡ false
of_none position at digits (inl low) =
    four_false position (start_at at) (end_at at) (start_at (second at)) (end_at (second at))
    (λ e. omega (arith, low, e)) (λ e. omega (arith, low, e)) (λ e. omega (arith, low, e)) (λ e. omega (arith, low, e))
of_none position at digits (inr high) =
    four_false position (start_at at) (end_at at) (start_at (second at)) (end_at (second at))
    (λ e. omega (arith, high, e)) (λ e. omega (arith, high, e)) (λ e. omega (arith, high, e)) (λ e. omega (arith, high, e))

not_open : (position a b : ℕ) → (position ≤ a) ⊎ (b ≤ position) → (nat_lt a position && nat_lt position b) ≡ false
not_open position a b (inl low) = ap (λ x. x && nat_lt position b) (le-ltb a position low)
not_open position a b (inr high) = ap (λ x. nat_lt a position && x) (le-ltb position b high) ∙ and-false (nat_lt a position)

source_closed : (position at : ℕ) (digits : List ℕ) → IsOutside position at → is_open_at position (move_with digits at).source ≡ false
source_closed position at digits (inl low) = not_open position (start_at at) (end_at at) (inl (omega (arith, low)))
source_closed position at digits (inr high) = not_open position (start_at at) (end_at at) (inr (omega (arith, high)))

target_closed : (position at : ℕ) (digits : List ℕ) → IsOutside position at → is_open_at position (move_with digits at).target ≡ false
target_closed position at digits (inl low) = not_open position (start_at (second at)) (end_at (second at)) (inl (omega (arith, low)))
target_closed position at digits (inr high) = not_open position (start_at (second at)) (end_at (second at)) (inr (omega (arith, high)))

both_below : (a b c : ℕ) → a < b → b < c → (nat_lt a b && nat_lt b c) ≡ true
both_below a b c e f = rw (lt-ltb a b e, lt-ltb b c f) refl

-- ---- the moves of a sample with so many blocks

abbrev pub part_moves : ℕ → List Pair
part_moves k = moves_of (form_of k) (decimal k) (start k)

abbrev pub all_moves : ℕ → List Pair
all_moves size = flat_map part_moves (range_with_len 0 size)

other_moves : (test : Pair → Bool) (form : Form) (digits : List ℕ) (at : ℕ) → (form ≡ Move → test (move_with digits at) ≡ false) → filter test (moves_of form digits at) ≡ []
other_moves test Plain digits at h = refl
other_moves test Insertion digits at h = refl
other_moves test Deletion digits at h = refl
other_moves test Mark digits at h = refl
other_moves test Both digits at h = refl
other_moves test Properties digits at h = refl
other_moves test Table digits at h = refl
other_moves test Move digits at h = ap (λ b. cond b (move_with digits at ∷ []) []) (h refl)

-- a position in one block with a move is outside the others
outside_others : (j k position : ℕ) → j ≢ k → form_of j ≡ Move → form_of k ≡ Move → start k < position → position < start k + 24 → IsOutside position (start j)
outside_others j k position other is_j is_k low high = by (cases_lt j k)
  where
    by : (j < k) ⊎ (k ≤ j) → IsOutside position (start j)
    by (inl less) = inr (omega (arith, move_before j k less is_j, low))
    by (inr more) = inl (omega (arith, move_before k j (omega (arith, more, other)) is_k, high))

-- a test of a position that the own move passes, and none does that the position is outside of
only_move : (test : Pair → Bool) (size k position : ℕ) → k < size → form_of k ≡ Move → start k < position → position < start k + 24
    → ((at : ℕ) (digits : List ℕ) → IsOutside position at → test (move_with digits at) ≡ false) → test (move_with (decimal k) (start k)) ≡ true
    → filter test (all_moves size) ≡ move_with (decimal k) (start k) ∷ []
only_move test size k position within is low high apart own =
    one_passes test part_moves k 0 size (omega arith) (omega (arith, within))
    (λ j below other. other_moves test (form_of j) (decimal j) (start j) (λ is_j. apart (start j) (decimal j) (outside_others j k position other is_j is low high)))
    ∙ ap (λ f. filter test (moves_of f (decimal k) (start k))) is
    ∙ ap (λ b. cond b (move_with (decimal k) (start k) ∷ []) []) own

pub move-alone : (size k : ℕ) → k < size → form_of k ≡ Move → IsAlone (all_moves size) (decimal k) (start k)
move-alone size k within is =
    let at = start k in
    record {
      from_begins = only_move (is_of_pair (start_at at)) size k (start_at at) within is (omega arith) (omega arith)
          (λ o d out. of_none (start_at at) o d out) (first_true (start_at at) (end_at at) (start_at (second at)) (end_at (second at)));
      from_ends = only_move (is_of_pair (end_at at)) size k (end_at at) within is (omega arith) (omega arith)
          (λ o d out. of_none (end_at at) o d out) (second_true (end_at at) (start_at at) (start_at (second at)) (end_at (second at)));
      to_begins = only_move (is_of_pair (start_at (second at))) size k (start_at (second at)) within is (omega arith) (omega arith)
          (λ o d out. of_none (start_at (second at)) o d out) (third_true (start_at (second at)) (start_at at) (end_at at) (end_at (second at)));
      to_ends = only_move (is_of_pair (end_at (second at))) size k (end_at (second at)) within is (omega arith) (omega arith)
          (λ o d out. of_none (end_at (second at)) o d out) (fourth_true (end_at (second at)) (start_at at) (end_at at) (start_at (second at)));
      source = only_move (λ (p : Pair). is_open_at (content_at at) p.source) size k (content_at at) within is (omega arith) (omega arith)
          (λ o d out. source_closed (content_at at) o d out) (both_below (start_at at) (content_at at) (end_at at) (omega arith) (omega arith));
      target = only_move (λ (p : Pair). is_open_at (content_at (second at)) p.target) size k (content_at (second at)) within is (omega arith) (omega arith)
          (λ o d out. target_closed (content_at (second at)) o d out)
          (both_below (start_at (second at)) (content_at (second at)) (end_at (second at)) (omega arith) (omega arith));
    }

-- ---- names and identifiers

other_digits : (j k : ℕ) → j < 2 ^ 64 → k < 2 ^ 64 → j ≢ k → bytes_eq (decimal j) (decimal k) ≡ false
other_digits j k small_j small_k other = by (bytes_eq (decimal j) (decimal k)) refl
  where
    by : (b : Bool) → bytes_eq (decimal j) (decimal k) ≡ b → b ≡ false
    by true e = absurd (other (decimal_injective j k small_j small_k ((bytes_eq-Decides (decimal j) (decimal k)).0 e)))
    by false e = refl

abbrev pub part_marks : ℕ → List Marking
part_marks k = marks_of (form_of k) (decimal k) (start k)

abbrev pub all_marks : ℕ → List Marking
all_marks size = flat_map part_marks (range_with_len 0 size)

module _ (size : ℕ) (few : size ≤ 20000) where
  -- a test that one marker of each move passes, where the digits are those of this number
  one_mark : (test : Marking → Bool) (mark : List ℕ → ℕ → Marking) (k : ℕ) → k < size → form_of k ≡ Move
      → ((digits : List ℕ) (at : ℕ) → filter test (marks_of Move digits at) ≡ cond (bytes_eq digits (decimal k)) (mark digits at ∷ []) [])
      → filter test (all_marks size) ≡ mark (decimal k) (start k) ∷ []
  one_mark test mark k within is passes =
      one_passes test part_marks k 0 size (omega arith) (omega (arith, within))
      (λ j below other. others (form_of j) (decimal j) (start j) (other_digits j k (omega (arith, few, below)) (omega (arith, few, within)) other))
      ∙ ap (λ f. filter test (marks_of f (decimal k) (start k))) is
      ∙ passes (decimal k) (start k)
      ∙ ap (λ b. cond b (mark (decimal k) (start k) ∷ []) []) (bytes_same (decimal k))
    where
      others : (form : Form) (digits : List ℕ) (at : ℕ) → bytes_eq digits (decimal k) ≡ false → filter test (marks_of form digits at) ≡ []
      others Plain digits at e = refl
      others Insertion digits at e = refl
      others Deletion digits at e = refl
      others Mark digits at e = refl
      others Both digits at e = refl
      others Properties digits at e = refl
      others Table digits at e = refl
      others Move digits at e = passes digits at ∙ ap (λ b. cond b (mark digits at ∷ []) []) e

  range_is : (start_mark_ end_mark_ : Marking) → start_mark_.at < end_mark_.at → start_mark_.loose ≡ false → end_mark_.loose ≡ false
      → range_from (Some start_mark_) (Some end_mark_) ≡ Some (record { start = start_mark_; end = end_mark_ })
  range_is a b less e f = rw (lt-ltb a.at b.at less, e, f) refl

  -- the move of a block is that with its name
  pub pair_is : (k : ℕ) → k < size → form_of k ≡ Move → pair_with_name (all_marks size) (109 ∷ decimal k) ≡ Some (move_with (decimal k) (start k))
  pair_is k within is =
      let marks = all_marks size in
      let digits = decimal k in
      let at = start k in
      let from_named = one_mark (λ m. same_edge m.edge from_start && has_name (109 ∷ digits) m.name) (start_mark from_start) k within is (λ d a. refl) in
      let to_named = one_mark (λ m. same_edge m.edge to_start && has_name (109 ∷ digits) m.name) (λ d a. start_mark to_start d (second a)) k within is (λ d a. refl) in
      let from_begins = one_mark (λ m. same_edge m.edge from_start && bytes_eq m.id digits) (start_mark from_start) k within is (λ d a. refl) in
      let from_ends = one_mark (λ m. same_edge m.edge from_end && bytes_eq m.id digits) (end_mark from_end) k within is (λ d a. refl) in
      let to_begins = one_mark (λ m. same_edge m.edge to_start && bytes_eq m.id digits) (λ d a. start_mark to_start d (second a)) k within is (λ d a. refl) in
      let to_ends = one_mark (λ m. same_edge m.edge to_end && bytes_eq m.id digits) (λ d a. end_mark to_end d (second a)) k within is (λ d a. refl) in
      let source : range_with_name from_start from_end marks (109 ∷ digits) ≡ Some (move_with digits at).source =
      ap (λ xs. option_and_then (λ mark. range_with_id from_start from_end marks mark.id) (only_one xs)) from_named
      ∙ ap (λ xs. range_from (only_one xs) (only_one (with_id from_end digits marks))) from_begins
      ∙ ap (λ xs. range_from (Some (start_mark from_start digits at)) (only_one xs)) from_ends
      ∙ range_is (start_mark from_start digits at) (end_mark from_end digits at) (omega arith) refl refl in
      let target : range_with_name to_start to_end marks (109 ∷ digits) ≡ Some (move_with digits at).target =
      ap (λ xs. option_and_then (λ mark. range_with_id to_start to_end marks mark.id) (only_one xs)) to_named
      ∙ ap (λ xs. range_from (only_one xs) (only_one (with_id to_end digits marks))) to_begins
      ∙ ap (λ xs. range_from (Some (start_mark to_start digits (second at))) (only_one xs)) to_ends
      ∙ range_is (start_mark to_start digits (second at)) (end_mark to_end digits (second at)) (omega arith) refl refl in
      ap (λ o. pair_from o (range_with_name to_start to_end marks (109 ∷ digits))) source ∙ ap (pair_from (Some (move_with digits at).source)) target

  moves_by_form : (k : ℕ) (form : Form) → k < size → form_of k ≡ form
      → filter_map (pair_of (all_marks size)) (marks_of form (decimal k) (start k)) ≡ moves_of form (decimal k) (start k)
  moves_by_form k Plain within is = refl
  moves_by_form k Insertion within is = refl
  moves_by_form k Deletion within is = refl
  moves_by_form k Mark within is = refl
  moves_by_form k Both within is = refl
  moves_by_form k Properties within is = refl
  moves_by_form k Table within is = refl
  moves_by_form k Move within is = ap (λ o. cons_option o []) (pair_is k within is)

  pub moves_are : (from count : ℕ) → from + count ≤ size
      → filter_map (pair_of (all_marks size)) (flat_map part_marks (range_with_len from count)) ≡ flat_map part_moves (range_with_len from count)
  moves_are from zero within = refl
  moves_are from (suc count) within =
      filter_map-append (pair_of (all_marks size)) (part_marks from) (flat_map part_marks (range_with_len (from + 1) count))
      ∙ ap (λ xs. xs ++ filter_map (pair_of (all_marks size)) (flat_map part_marks (range_with_len (from + 1) count)))
      (moves_by_form from (form_of from) (omega (arith, within)) refl)
      ∙ ap (λ xs. part_moves from ++ xs) (moves_are (from + 1) count (omega (arith, within)))
