-- The code's numbers are those of the numbering so far.
use Rattle.std.proofs.Common.{◌≡◌, ◌∙◌, refl, ap, sym, subst, ℕ, zero, suc, ◌+◌, ◌<◌, ◌==◌, List, [], ◌∷◌, Bool, true, false, true≢false, inl, inr, is_some, find, filter, get_or, set, length, replicate, Option, Some, None, IfSome, option_map, unwrap_or, arith, if◌then◌else◌, nat_lt}
use Rattle.std.proofs.lemmas.List.{length-set, get_or-set_same, get_or-set_other}
use Rattle.std.proofs.lemmas.Option.{slice_get_within}
use Rattle.std.proofs.lemmas.Bool.{eq-eqb, eqb-true}
use Rattle.redl_tree.specs.Model.Seen.{Seen}
use Rattle.redl_tree.specs.Revisions.Markers.{move_at, move_of_member, move_of_marker, move_of, either, own_role}
use Rattle.redl_tree.specs.Revisions.Moves.{Marking, Range, Pair, pairs, pair_at, latest, later, is_open_at, place_of}
use Rattle.redl_tree.specs.Revisions.Numbers.{Membership, in_none, in_own, in_move, membership, Numbering, number_of_move, number_for, counted, counted_move, start_with}
use Rattle.redl_tree.specs.declared.kinds.Kind.{Kind}
use Rattle.redl_tree.specs.declared.kinds.Kind.TheVariants.{Content, Mark, Row, Cell, Change, Plain, Marker}
use Rattle.redl_tree.specs.declared.kinds.Trace.{Trace}
use Rattle.redl_tree.specs.declared.kinds.Trace.TheVariants.{Ins, Del, From, To}
use Rattle.redl_stamp.specs.Attribute.{attribute_value}
use Rattle.redl_moves.specs.Marks.{RisesFrom}
use Rattle.redl_moves.specs.Starts.{start_in}
use Rattle.redl_moves.proofs.AgainLaws.{In, filter-in}
use Rattle.redl_moves.proofs.ThereLaws.{pair-there}
use Rattle.redl_index.specs.Kinds.{kind_of}
use Rattle.redl_index.specs.Inside.Numberings.{NumbersView, one_given, number_at, given_at, number_in_revision, given_in_revision, number_given, given, number_in, IsPlaced, IsNumbering}
use Rattle.redl_index.specs.declared.story.Sight.{Sight}

-- ---- the source of each move starts with a marker

module _ (P : Pair → Type 0) where
  abbrev Each : List Pair → Type 0
  Each xs = (pair : Pair) → In pair xs → P pair

  holds-find : (f : Pair → Bool) (xs : List Pair) → Each xs → IfSome (find f xs) P
  holds-find f [] each = tt
  holds-find f (x ∷ xs) each = by (f x) (each x (inl refl)) (holds-find f xs (λ pair there. each pair (inr there)))
    where
      by : (b : Bool) → P x → IfSome (find f xs) P → IfSome (if b then Some x else find f xs) P
      by true here more = here
      by false here more = more

  holds-later : (side : Pair → Range) (x : Pair) (o : Option Pair) → P x → IfSome o P → IfSome (later side x o) P
  holds-later side x None here more = here
  holds-later side x (Some y) here more = by (nat_lt (side y).start.at (side x).start.at)
    where
      by : (b : Bool) → IfSome (if b then Some x else Some y) P
      by true = here
      by false = more

  holds-latest : (side : Pair → Range) (xs : List Pair) → Each xs → IfSome (latest side xs) P
  holds-latest side [] each = tt
  holds-latest side (x ∷ xs) each =
      holds-later side x (latest side xs) (each x (inl refl)) (holds-latest side xs (λ pair there. each pair (inr there)))

  module _ (moves : List Pair) (each : Each moves) where
    holds-at : (side : Pair → Range) (at : ℕ) → IfSome (pair_at side at moves) P
    holds-at side at =
        holds-latest side (filter (λ pair. is_open_at at (side pair)) moves)
        (λ pair there. each pair (filter-in (λ pair. is_open_at at (side pair)) moves pair there).0)

    holds-trace : (trace : Trace) (at : ℕ) → IfSome (move_at moves trace at) P
    holds-trace From at = holds-at (λ pair. pair.source) at
    holds-trace To at = holds-at (λ pair. pair.target) at
    holds-trace Ins at = tt
    holds-trace Del at = tt

    holds-member : (kind : Kind) (x : Seen) → IfSome (move_of_member moves kind x) P
    holds-member Plain x = tt
    holds-member (Content trace) x = holds-trace trace _
    holds-member (Mark trace) x = holds-trace trace _
    holds-member (Row trace) x = tt
    holds-member (Cell trace) x = tt
    holds-member (Change prop) x = tt
    holds-member Marker x = tt

    holds-either : (a b : Option Pair) → IfSome a P → IfSome b P → IfSome (either a b) P
    holds-either None b first second = second
    holds-either (Some pair) b first second = first

    holds-move : (x : Seen) → IfSome (move_of attribute_value moves x) P
    holds-move x =
        holds-either (move_of_marker attribute_value moves x) (move_of_member moves (own_role x) x) (holds-find _ moves each) (holds-member (own_role x) x)

-- the move that an element is in starts at one of these markers
pub placed-move : (marks : List Marking) → RisesFrom 0 marks → (x : Seen) → IsPlaced marks (move_of attribute_value (pairs marks) x)
placed-move marks rises x =
    holds-move (λ pair. place_of marks pair.source.start.at < length marks) (pairs marks)
    (λ pair there. slice_get_within marks (place_of marks pair.source.start.at) pair.source.start (pair-there marks rises pair there).source_start) x

-- ---- places

-- positions of markers with the same place are the same
one_place : (marks : List Marking) (a b : ℕ) → place_of marks a < length marks → place_of marks a ≡ place_of marks b → a ≡ b
one_place [] a b within is = absurd (omega (arith, within))
one_place (mark ∷ marks) a b within is = by (mark.at == a) (mark.at == b) refl refl within is (λ there is_place. one_place marks a b there is_place)
  where
    by : (p q : Bool) → (mark.at == a) ≡ p → (mark.at == b) ≡ q → (if p then 0 else 1 + place_of marks a) < length (mark ∷ marks)
        → (if p then 0 else 1 + place_of marks a) ≡ (if q then 0 else 1 + place_of marks b)
        → (place_of marks a < length marks → place_of marks a ≡ place_of marks b → a ≡ b) → a ≡ b
    by true true at_a at_b within is later = sym (eqb-true mark.at a at_a) ∙ eqb-true mark.at b at_b
    by true false at_a at_b within is later = absurd (omega (arith, is))
    by false true at_a at_b within is later = absurd (omega (arith, is))
    by false false at_a at_b within is later = later (omega (arith, within)) (omega (arith, is))

-- ---- numbers that are kept

some-number : (n : ℕ) → (n == 0) ≡ false → number_in n ≡ Some n
some-number zero e = absurd (true≢false e)
some-number (suc n) e = refl

no-number : (n : ℕ) → (n == 0) ≡ true → number_in n ≡ None
no-number zero e = refl
no-number (suc n) e = absurd (omega (arith, eqb-true (suc n) 0 e))

positive-number : (n : ℕ) → 0 < n → number_in n ≡ Some n
positive-number zero h = absurd (omega (arith, h))
positive-number (suc n) h = refl

abbrev pub none_of : ℕ → List ℕ
none_of n = replicate n 0

get-replicate : (n at : ℕ) → get_or (none_of n) at 0 ≡ 0
get-replicate zero at = refl
get-replicate (suc n) zero = refl
get-replicate (suc n) (suc at) = get-replicate n at

length-replicate : (n : ℕ) → length (none_of n) ≡ n
length-replicate zero = refl
length-replicate (suc n) = ap suc (length-replicate n)

-- before the first element of a story
pub numbering-begins : (marks : List Marking) (next : ℕ) → RisesFrom 0 marks → 0 < next
    → IsNumbering marks (record { next = next; moves = none_of (length marks) }) (start_with next)
numbering-begins marks next rises begun = record {
  rising = rises;
  next = refl;
  begun = begun;
  places = length-replicate (length marks);
  moves = λ start within. sym (ap number_in (get-replicate (length marks) (place_of marks start)));
}

-- ---- the revision of an element

-- the revision of an element that is in one
abbrev pub in_revision : Option Pair → Membership
in_revision None = in_own
in_revision (Some pair) = in_move pair.source.start.at

in-revision : (kind : Kind) (p : Option Pair) → is_some (kind_of kind) ≡ true → membership kind p ≡ in_revision p
in-revision Plain p is = absurd (true≢false (sym is))
in-revision (Content x) None is = refl
in-revision (Content x) (Some pair) is = refl
in-revision (Mark x) None is = refl
in-revision (Mark x) (Some pair) is = refl
in-revision (Row x) None is = refl
in-revision (Row x) (Some pair) is = refl
in-revision (Cell x) None is = refl
in-revision (Cell x) (Some pair) is = refl
in-revision (Change x) None is = refl
in-revision (Change x) (Some pair) is = refl
in-revision Marker None is = refl
in-revision Marker (Some pair) is = refl

in-none : (kind : Kind) (p : Option Pair) → is_some (kind_of kind) ≡ false → membership kind p ≡ in_none
in-none Plain p is = refl
in-none (Content x) p is = absurd (true≢false is)
in-none (Mark x) p is = absurd (true≢false is)
in-none (Row x) p is = absurd (true≢false is)
in-none (Cell x) p is = absurd (true≢false is)
in-none (Change x) p is = absurd (true≢false is)
in-none Marker p is = absurd (true≢false is)

-- ---- the number of an element, and the numbers after it

module _ (marks : List Marking) (numbers : NumbersView) (so_far : Numbering) (had : IsNumbering marks numbers so_far) where
  numbering-own : IsNumbering marks (one_given numbers) (counted in_own so_far)
  numbering-own = record {
    rising = had.rising;
    next = ap (λ n. n + 1) had.next;
    begun = omega (arith, had.begun);
    places = had.places;
    moves = had.moves;
  }

  module _ (start : ℕ) (within : place_of marks start < length marks) where
    abbrev Known : ℕ
    Known = get_or numbers.moves (place_of marks start) 0

    -- a move that has a number
    move-known : (Known == 0) ≡ false → number_of_move so_far.moves start ≡ Some Known
    move-known some = had.moves start within ∙ some-number Known some

    -- a move that has none
    move-unknown : (Known == 0) ≡ true → number_of_move so_far.moves start ≡ None
    move-unknown none = had.moves start within ∙ no-number Known none

    number-move : number_at (place_of marks start) numbers ≡ number_for (in_move start) so_far
    number-move = by (Known == 0) refl
      where
        by : (b : Bool) → (Known == 0) ≡ b → (if b then numbers.next else Known) ≡ number_for (in_move start) so_far
        by true none = had.next ∙ ap (λ o. unwrap_or o so_far.next) (sym (move-unknown none))
        by false some = ap (λ o. unwrap_or o so_far.next) (sym (move-known some))

    abbrev First : NumbersView
    First = record { next = numbers.next + 1; moves = set numbers.moves (place_of marks start) numbers.next }

    first-moves : (other : ℕ) → place_of marks other < length marks → (b : Bool) → (start == other) ≡ b
        → (if start == other then Some so_far.next else number_of_move so_far.moves other) ≡ number_in (get_or First.moves (place_of marks other) 0)
    first-moves other there true e =
        ap (λ b. if b then Some so_far.next else number_of_move so_far.moves other) e
        ∙ ap Some (sym had.next)
        ∙ sym (positive-number numbers.next (omega (arith, had.begun, had.next)))
        ∙ ap number_in (sym (get_or-set_same numbers.moves (place_of marks start) numbers.next 0 (omega (arith, within, had.places))))
        ∙ ap (λ n. number_in (get_or First.moves (place_of marks n) 0)) (eqb-true start other e)
    first-moves other there false e =
        ap (λ b. if b then Some so_far.next else number_of_move so_far.moves other) e
        ∙ had.moves other there
        ∙ ap number_in (sym (get_or-set_other numbers.moves (place_of marks start) (place_of marks other) numbers.next 0 apart))
      where
        apart : place_of marks other ≡ place_of marks start → ⊥
        apart is = true≢false (sym (ap (λ n. start == n) (sym (one_place marks start other within (sym is))) ∙ eq-eqb start start refl) ∙ e)

    numbering-first : IsNumbering marks First (counted_move start None so_far)
    numbering-first = record {
      rising = had.rising;
      next = ap (λ n. n + 1) had.next;
      begun = omega (arith, had.begun);
      places = length-set numbers.moves (place_of marks start) numbers.next ∙ had.places;
      moves = λ other there. first-moves other there (start == other) refl;
    }

    numbering-move : IsNumbering marks (given_at (place_of marks start) numbers) (counted (in_move start) so_far)
    numbering-move = by (Known == 0) refl
      where
        by : (b : Bool) → (Known == 0) ≡ b → IsNumbering marks (if b then First else numbers) (counted (in_move start) so_far)
        by true none = subst (λ o. IsNumbering marks First (counted_move start o so_far)) (sym (move-unknown none)) numbering-first
        by false some = subst (λ o. IsNumbering marks numbers (counted_move start o so_far)) (sym (move-known some)) had

  -- of an element that is in a revision
  number-in_revision : (p : Option Pair) → IsPlaced marks p → number_in_revision (option_map (start_in marks) p) numbers ≡ number_for (in_revision p) so_far
  number-in_revision None placed = had.next
  number-in_revision (Some pair) placed = number-move pair.source.start.at placed

  numbering-in_revision : (p : Option Pair) → IsPlaced marks p → IsNumbering marks (given_in_revision (option_map (start_in marks) p) numbers) (counted (in_revision p) so_far)
  numbering-in_revision None placed = numbering-own
  numbering-in_revision (Some pair) placed = numbering-move pair.source.start.at placed

  -- of any element
  module _ (kind : Kind) (p : Option Pair) (placed : IsPlaced marks p) where
    abbrev Here : Sight
    Here = record { kind = kind; start = option_map (start_in marks) p }

    pub number-given : number_given Here numbers ≡ number_for (membership kind p) so_far
    number-given = by (is_some (kind_of kind)) refl
      where
        by : (b : Bool) → is_some (kind_of kind) ≡ b → (if b then number_in_revision Here.start numbers else 0) ≡ number_for (membership kind p) so_far
        by true is = number-in_revision p placed ∙ ap (λ m. number_for m so_far) (sym (in-revision kind p is))
        by false is = ap (λ m. number_for m so_far) (sym (in-none kind p is))

    pub numbering-given : IsNumbering marks (given Here numbers) (counted (membership kind p) so_far)
    numbering-given = by (is_some (kind_of kind)) refl
      where
        by : (b : Bool) → is_some (kind_of kind) ≡ b → IsNumbering marks (if b then given_in_revision Here.start numbers else numbers) (counted (membership kind p) so_far)
        by true is = subst (λ m. IsNumbering marks (given_in_revision Here.start numbers) (counted m so_far)) (sym (in-revision kind p is)) (numbering-in_revision p placed)
        by false is = subst (λ m. IsNumbering marks numbers (counted m so_far)) (sym (in-none kind p is)) had
