-- The outermost spans round a change are found by going back from the last span.
use Rattle.std.proofs.Common.{◌≡◌, ◌≤◌, ◌<◌, ◌+◌, ◌-◌, ◌&&◌, ◌⊎◌, inl, inr, ℕ, zero, suc, Bool, true, false, List, [], ◌∷◌, ◌++◌, length, get_or, take, refl, sym, subst, ◌∙◌, ap, arith, Option, Some, None, is_some, add-one}
use Rattle.std.proofs.lemmas.Bool.{cases_lt, le-leb, lt-leb}
use Rattle.std.proofs.lemmas.List.{get_or-take, length-take-le, take_more}
use Rattle.std.proofs.lemmas.Option.{slice_get-get_or}
use Rattle.std.specs.Prelude.{cond, find, nat_le, nat_lt, if◌then◌else◌}
use Rattle.redl_index.specs.declared.revision.Revision.{Revision}
use Rattle.redl_spans.specs.declared.span.Span.{Span}
use Rattle.redl_edits.specs.Beside.{pair_of}
use Rattle.redl_edits.specs.Enclosed.{are_held, is_enclosed, is_round, may_enclose, or_else, outermost, pair_enclosed, pair_with, round_if, round_upto}
use Rattle.redl_edits.specs.Alike.{is_change_at}
use Rattle.redl_edits.specs.Inside.Ends.{AreInOrder}
use Rattle.redl_edits.specs.Inside.Rounds.{IsStack, LowersEarlier, LowersLater, sought}
use Rattle.redl_edits.proofs.BesideLaws.{none}

-- ---- one span

module _ (revisions : List Revision) (change : Span) where
  pub is_round-before : (unit : ℕ) (span : Span) → unit < span.from → is_round revisions change unit span ≡ false
  is_round-before unit span before = rw (lt-leb span.from unit before) refl

  pub is_round-past : (unit : ℕ) (span : Span) → span.to ≤ unit → is_round revisions change unit span ≡ false
  is_round-past unit span past =
      rw (lt-leb (suc unit) span.to (omega (arith, past)))
      (elim (nat_le span.from unit) as (λ b. (b && false) && may_enclose revisions change span ≡ false) [ true ↦ refl | false ↦ refl ])

  pub is_round-other : (unit : ℕ) (span : Span) → may_enclose revisions change span ≡ false → is_round revisions change unit span ≡ false
  is_round-other unit span other =
      rw other (elim (nat_le span.from unit && nat_lt unit span.to) as (λ b. b && false ≡ false) [ true ↦ refl | false ↦ refl ])

  pub is_round-here : (unit : ℕ) (span : Span) → span.from ≤ unit → unit < span.to → may_enclose revisions change span ≡ true → is_round revisions change unit span ≡ true
  is_round-here unit span from to may =
      rw (le-leb span.from unit from) (rw (le-leb (suc unit) span.to (omega (arith, to))) (rw may refl))

  pub round_if-none : (unit : ℕ) (span : Span) → is_round revisions change unit span ≡ false → round_if revisions change unit (Some span) ≡ None
  round_if-none unit span other = rw other refl

  pub round_if-some : (unit : ℕ) (span : Span) → is_round revisions change unit span ≡ true → round_if revisions change unit (Some span) ≡ Some span
  round_if-some unit span here = rw here refl

-- ---- the first one of a list

module _ (p : Span → Bool) where
  pub find-append : (xs ys : List Span) → find p (xs ++ ys) ≡ or_else (find p xs) (find p ys)
  find-append [] ys = refl
  find-append (x ∷ xs) ys = elim (p x) as (λ b. cond b (Some x) (find p (xs ++ ys)) ≡ or_else (cond b (Some x) (find p xs)) (find p ys)) [
    | true ↦ refl
    | false ↦ find-append xs ys
  ]

  pub find-none : (xs : List Span) → ((k : ℕ) → k < length xs → p (get_or xs k none) ≡ false) → find p xs ≡ None
  find-none [] misses = refl
  find-none (x ∷ xs) misses = rw (misses 0 (omega arith)) (find-none xs (λ k bound. misses (suc k) (omega (arith, bound))))

-- ---- the last one of so many first spans

module _ (revisions : List Revision) (change : Span) (spans : List Span) where
  pub round_upto-more : (unit n : ℕ) → n < length spans
      → round_upto revisions spans change unit (suc n) ≡ or_else (round_if revisions change unit (Some (get_or spans n none))) (round_upto revisions spans change unit n)
  round_upto-more unit n bound = ap (λ span. or_else (round_if revisions change unit span) (round_upto revisions spans change unit n)) (slice_get-get_or spans n none bound)

  pub round_upto-miss : (unit n : ℕ) → n < length spans → is_round revisions change unit (get_or spans n none) ≡ false
      → round_upto revisions spans change unit (suc n) ≡ round_upto revisions spans change unit n
  round_upto-miss unit n bound other =
      round_upto-more unit n bound
      ∙ ap (λ span. or_else span (round_upto revisions spans change unit n)) (round_if-none revisions change unit (get_or spans n none) other)

  pub round_upto-here : (unit n : ℕ) → n < length spans → is_round revisions change unit (get_or spans n none) ≡ true
      → round_upto revisions spans change unit (suc n) ≡ Some (get_or spans n none)
  round_upto-here unit n bound here =
      round_upto-more unit n bound
      ∙ ap (λ span. or_else span (round_upto revisions spans change unit n)) (round_if-some revisions change unit (get_or spans n none) here)

  -- none that ends before the unit is round it
  pub round_upto-past : AreInOrder spans → (unit last : ℕ) → last < length spans → (get_or spans last none).to ≤ unit → (n : ℕ) → n ≤ suc last
      → round_upto revisions spans change unit n ≡ None
  round_upto-past order unit last within past zero few = refl
  round_upto-past order unit last within past (suc n) few =
      let low : n ≤ last = omega (arith, few) in
      let bound : n < length spans = omega (arith, low, within) in
      let ends : (get_or spans n none).to ≤ (get_or spans last none).to = order n last none low within in
      let past' : (get_or spans n none).to ≤ unit = omega (arith, ends, past) in
      let rest : n ≤ suc last = omega (arith, low) in
      round_upto-miss unit n bound (is_round-past revisions change unit (get_or spans n none) past')
      ∙ round_upto-past order unit last within past n rest

-- those of a list's beginning
pub round_upto-take : (revisions : List Revision) (change : Span) (spans : List Span) (unit place : ℕ) → place ≤ length spans → (n : ℕ) → n ≤ place
    → round_upto revisions (take place spans) change unit n ≡ round_upto revisions spans change unit n
round_upto-take revisions change spans unit place within zero few = refl
round_upto-take revisions change spans unit place within (suc n) few =
    let low : n ≤ place = omega (arith, few) in
    let bound : n < length spans = omega (arith, few, within) in
    let size : length (take place spans) ≡ place = length-take-le place spans within in
    let bound' : n < length (take place spans) = omega (arith, few, size) in
    round_upto-more revisions change (take place spans) unit n bound'
    ∙ ap (λ span. or_else (round_if revisions change unit (Some span)) (round_upto revisions (take place spans) change unit n)) (get_or-take place spans n none few)
    ∙ ap (λ other. or_else (round_if revisions change unit (Some (get_or spans n none))) other) (round_upto-take revisions change spans unit place within n low)
    ∙ sym (round_upto-more revisions change spans unit n bound)

-- ---- by spans that end with a change or behind it

module _ (revisions : List Revision) (change : Span) where
  round-of-more : (unit : ℕ) (xs : List Span) (x : Span) → find (is_round revisions change unit) (xs ++ x ∷ [])
      ≡ or_else (find (is_round revisions change unit) xs) (round_if revisions change unit (Some x))
  round-of-more unit xs x = find-append (is_round revisions change unit) xs (x ∷ [])

  either : (one two : Option Span) → is_some one ≡ true → is_some (or_else one two) ≡ true
  either (Some x) two is = refl
  either None two is = cc

  other-one : (one : Option Span) (x : Span) → is_some (or_else one (Some x)) ≡ true
  other-one (Some y) x = refl
  other-one None x = refl

  neither : (one two : Option Span) → one ≡ None → two ≡ None → or_else one two ≡ None
  neither one two first second = rw first (rw second refl)

  pub Later-none : LowersLater revisions change [] change.to
  Later-none = record { bound = omega arith; held = λ k from to. absurd (omega (arith, from, to)); free = λ k below. refl }

  pub Later-lower : (xs : List Span) (x : Span) (need : ℕ) → LowersLater revisions change xs need → x.from < need → may_enclose revisions change x ≡ true
      → change.to ≤ x.to → LowersLater revisions change (xs ++ x ∷ []) x.from
  Later-lower xs x need known less may ends = record {
    bound = (let was : need ≤ change.to = known.bound in omega (arith, less, was));
    held = λ k from to. rw (round-of-more k xs x)
        (rw (round_if-some revisions change k x (is_round-here revisions change k x from (omega (arith, to, ends)) may))
        (other-one (find (is_round revisions change k) xs) x));
    free = λ k below. round-of-more k xs x ∙ neither (find (is_round revisions change k) xs) (round_if revisions change k (Some x))
        (known.free k (omega (arith, below, less))) (round_if-none revisions change k x (is_round-before revisions change k x below));
  }

  later-free : (xs : List Span) (x : Span) (need k : ℕ) → LowersLater revisions change xs need → k < need → is_round revisions change k x ≡ false
      → find (is_round revisions change k) (xs ++ x ∷ []) ≡ None
  later-free xs x need k known below other = round-of-more k xs x
      ∙ neither (find (is_round revisions change k) xs) (round_if revisions change k (Some x)) (known.free k below) (round_if-none revisions change k x other)

  pub Later-same : (xs : List Span) (x : Span) (need : ℕ) → LowersLater revisions change xs need → (need ≤ x.from ⊎ may_enclose revisions change x ≡ false)
      → LowersLater revisions change (xs ++ x ∷ []) need
  Later-same xs x need known (inl behind) = record {
    bound = known.bound;
    held = λ k from to. rw (round-of-more k xs x) (either (find (is_round revisions change k) xs) (round_if revisions change k (Some x)) (known.held k from to));
    free = λ k below. later-free xs x need k known below (is_round-before revisions change k x (omega (arith, below, behind)));
  }
  Later-same xs x need known (inr other) = record {
    bound = known.bound;
    held = λ k from to. rw (round-of-more k xs x) (either (find (is_round revisions change k) xs) (round_if revisions change k (Some x)) (known.held k from to));
    free = λ k below. later-free xs x need k known below (is_round-other revisions change k x other);
  }

-- ---- by spans that end before it

-- so many of the first spans weren't looked at
pub record Lowering (revisions : List Revision) (change : Span) (spans : List Span) (before need left : ℕ) : Type 0 where
  pub few : left ≤ length spans
  pub bound : need ≤ before
  pub held : (k : ℕ) → need ≤ k → k < before → is_some (round_upto revisions spans change k (length spans)) ≡ true
  pub free : (k : ℕ) → k < need → round_upto revisions spans change k (length spans) ≡ round_upto revisions spans change k left

module _ (revisions : List Revision) (change : Span) (spans : List Span) (before : ℕ) where
  pub Lowering-none : Lowering revisions change spans before before (length spans)
  Lowering-none = record { few = omega arith; bound = omega arith; held = λ k from to. absurd (omega (arith, from, to)); free = λ k below. refl }

  module _ (need left n : ℕ) (known : Lowering revisions change spans before need left) (more : left ≡ suc n) where
    within : n < length spans
    within = let few : left ≤ length spans = known.few in omega (arith, few, more)

    at_more : (k : ℕ) → k < need → round_upto revisions spans change k (length spans) ≡ round_upto revisions spans change k (suc n)
    at_more k below = known.free k below ∙ ap (round_upto revisions spans change k) more

    pub Lowering-lower : (get_or spans n none).from < need → may_enclose revisions change (get_or spans n none) ≡ true → need ≤ (get_or spans n none).to
        → Lowering revisions change spans before (get_or spans n none).from n
    Lowering-lower less may ends = record {
      few = omega (arith, within);
      bound = (let was : need ≤ before = known.bound in omega (arith, less, was));
      held = λ k from to. elim (cases_lt k need) [
        | inl below ↦
            ap is_some (at_more k below ∙ round_upto-here revisions change spans k n within
            (is_round-here revisions change k (get_or spans n none) from (omega (arith, below, ends)) may))
        | inr past ↦ known.held k past to
      ];
      free = λ k below.
          let below' : k < need = omega (arith, below, less) in
          at_more k below' ∙ round_upto-miss revisions change spans k n within (is_round-before revisions change k (get_or spans n none) below);
    }

    pub Lowering-same : (need ≤ (get_or spans n none).from ⊎ may_enclose revisions change (get_or spans n none) ≡ false) → Lowering revisions change spans before need n
    Lowering-same (inl behind) = record {
      few = omega (arith, within);
      bound = known.bound;
      held = known.held;
      free = λ k below. at_more k below
          ∙ round_upto-miss revisions change spans k n within (is_round-before revisions change k (get_or spans n none) (omega (arith, below, behind)));
    }
    Lowering-same (inr other) = record {
      few = omega (arith, within);
      bound = known.bound;
      held = known.held;
      free = λ k below. at_more k below
          ∙ round_upto-miss revisions change spans k n within (is_round-other revisions change k (get_or spans n none) other);
    }

    -- where what is left ends before
    pub Lowering-past : AreInOrder spans → (get_or spans n none).to < need → LowersEarlier revisions change spans before need
    Lowering-past order past = record {
      bound = known.bound;
      held = known.held;
      free = λ wanted.
          let below : need - 1 < need = omega (arith, wanted) in
          let past' : (get_or spans n none).to ≤ need - 1 = omega (arith, past) in
          let few : suc n ≤ suc n = omega arith in
          at_more (need - 1) below ∙ round_upto-past revisions change spans order (need - 1) n within past' (suc n) few;
    }

  -- where none is left
  pub Lowering-all : (need left : ℕ) → Lowering revisions change spans before need left → left ≡ 0 → LowersEarlier revisions change spans before need
  Lowering-all need left known over = record {
    bound = known.bound;
    held = known.held;
    free = λ wanted.
        let below : need - 1 < need = omega (arith, wanted) in
        known.free (need - 1) below ∙ ap (round_upto revisions spans change (need - 1)) over;
  }

  -- where all units of the change are held
  pub Lowering-held : (need left : ℕ) → Lowering revisions change spans before need left → need ≤ change.from → LowersEarlier revisions change spans before need
  Lowering-held need left known low = record {
    bound = known.bound;
    held = known.held;
    free = λ wanted. absurd (omega (arith, wanted, low));
  }

-- ---- at a place of a list

module _ (revisions : List Revision) (change : Span) (later : List Span) (i need : ℕ) (known : LowersLater revisions change (take i later) need) (bound : i < length later) where
  pub Later-lower-at : (get_or later i none).from < need → may_enclose revisions change (get_or later i none) ≡ true → change.to ≤ (get_or later i none).to
      → LowersLater revisions change (take (i + 1) later) (get_or later i none).from
  Later-lower-at less may ends =
      subst (λ xs. LowersLater revisions change xs (get_or later i none).from) (sym (take_more later i none bound))
      (Later-lower revisions change (take i later) (get_or later i none) need known less may ends)

  pub Later-same-at : (need ≤ (get_or later i none).from ⊎ may_enclose revisions change (get_or later i none) ≡ false) → LowersLater revisions change (take (i + 1) later) need
  Later-same-at why =
      subst (λ xs. LowersLater revisions change xs need) (sym (take_more later i none bound))
      (Later-same revisions change (take i later) (get_or later i none) need known why)

-- ---- whether all units of a change are held

module _ (revisions : List Revision) (spans : List Span) (change : Span) where
  pub are_held-all : (n : ℕ) → ((k : ℕ) → k < n → is_some (outermost revisions spans change (change.from + k)) ≡ true) → are_held revisions spans change n ≡ true
  are_held-all zero each = refl
  are_held-all (suc n) each =
      rw (are_held-all n (λ k less. each k (omega (arith, less)))) (each n (omega arith))

  pub are_held-not : (n k : ℕ) → k < n → is_some (outermost revisions spans change (change.from + k)) ≡ false → are_held revisions spans change n ≡ false
  are_held-not zero k less miss = absurd (omega (arith, less))
  are_held-not (suc n) k less miss = elim (cases_lt k n) [
    | inl before ↦ rw (are_held-not n k before miss) refl
    | inr last ↦
        let same : k ≡ n = omega (arith, less, last) in
        rw (subst (λ m. is_some (outermost revisions spans change (change.from + m)) ≡ false) same miss)
        (elim (are_held revisions spans change n) as (λ b. b && false ≡ false) [ true ↦ refl | false ↦ refl ])
  ]

module _ (revisions : List Revision) (spans : List Span) (change : Span) (place : ℕ) (later : List Span) (bound : place < length spans)
    (here : get_or spans place none ≡ change) (is : is_change_at revisions change.revision ≡ true) (stack : IsStack revisions spans later (place + 1) change.to)
    (first second : ℕ) (by_later : LowersLater revisions change later first) (by_earlier : LowersEarlier revisions change (take place spans) first second)
    (filled : change.from < change.to) where
  abbrev pub earlier_round : ℕ → Option Span
  earlier_round unit = round_upto revisions (take place spans) change unit (length (take place spans))

  own-miss : (unit : ℕ) → is_round revisions change unit (get_or spans place none) ≡ false
  own-miss unit = rw here (is_round-other revisions change unit change (rw is refl))

  earlier-same : (unit : ℕ) → round_upto revisions spans change unit (place + 1) ≡ earlier_round unit
  earlier-same unit =
      let size : length (take place spans) ≡ place = length-take-le place spans (omega (arith, bound)) in
      rw (add-one place) (round_upto-miss revisions change spans unit place bound (own-miss unit))
      ∙ sym (round_upto-take revisions change spans unit place (omega (arith, bound)) place (omega arith))
      ∙ ap (round_upto revisions (take place spans) change unit) (sym size)

  pub outermost-is : (unit : ℕ) → unit < change.to → outermost revisions spans change unit ≡ or_else (find (is_round revisions change unit) later) (earlier_round unit)
  outermost-is unit below = stack.found change unit below ∙ ap (or_else (find (is_round revisions change unit) later)) (earlier-same unit)

  held-by-either : (one two : Option Span) → is_some two ≡ true → is_some (or_else one two) ≡ true
  held-by-either (Some x) two is_two = refl
  held-by-either None two is_two = is_two

  held-by-first : (one two : Option Span) → is_some one ≡ true → is_some (or_else one two) ≡ true
  held-by-first (Some x) two is_one = refl
  held-by-first None two is_one = cc

  each-held : second ≤ change.from → (unit : ℕ) → change.from ≤ unit → unit < change.to → is_some (outermost revisions spans change unit) ≡ true
  each-held low unit from to = elim (cases_lt unit first) [
    | inl below ↦ ap is_some (outermost-is unit to)
        ∙ held-by-either (find (is_round revisions change unit) later) (earlier_round unit) (by_earlier.held unit (omega (arith, low, from)) below)
    | inr above ↦ ap is_some (outermost-is unit to)
        ∙ held-by-first (find (is_round revisions change unit) later) (earlier_round unit) (by_later.held unit above to)
  ]

  pub enclosed-all : second ≤ change.from → is_enclosed revisions spans change ≡ true
  enclosed-all low =
      rw (le-leb (suc change.from) change.to (omega (arith, filled)))
      (are_held-all revisions spans change (change.to - change.from) (λ k less. each-held low (change.from + k) (omega arith) (omega (arith, less))))

  pub enclosed-not : change.from < second → is_enclosed revisions spans change ≡ false
  enclosed-not high =
      let top : second ≤ first = by_earlier.bound in
      let end : first ≤ change.to = by_later.bound in
      let unit : change.from + (second - 1 - change.from) ≡ second - 1 = omega (arith, high) in
      let low : second - 1 < first = omega (arith, high, top) in
      let inside : second - 1 < change.to = omega (arith, low, end) in
      let none_found : outermost revisions spans change (second - 1) ≡ None =
      outermost-is (second - 1) inside
      ∙ ap (λ one. or_else one (earlier_round (second - 1))) (by_later.free (second - 1) low) ∙ by_earlier.free high in
      let missed : is_some (outermost revisions spans change (change.from + (second - 1 - change.from))) ≡ false =
      ap (λ n. is_some (outermost revisions spans change n)) unit ∙ ap is_some none_found in
      let less : second - 1 - change.from < change.to - change.from = omega (arith, high, inside) in
      rw (le-leb (suc change.from) change.to (omega (arith, filled)))
      (are_held-not revisions spans change (change.to - change.from) (second - 1 - change.from) less missed)

  chosen : (b : Bool) → b ≡ true → (one : Option Span) → (if b then one else None) ≡ one
  chosen b is_true one = rw is_true refl

  pub sought-not : change.from < second → sought revisions spans change ≡ None
  sought-not high = rw (enclosed-not high) refl

  pub sought-later : second ≤ change.from → (x : Span) → find (is_round revisions change change.from) later ≡ Some x → sought revisions spans change ≡ Some x
  sought-later low x found =
      chosen (is_enclosed revisions spans change) (enclosed-all low) (outermost revisions spans change change.from)
      ∙ outermost-is change.from filled ∙ ap (λ one. or_else one (earlier_round change.from)) found

  pub sought-earlier : second ≤ change.from → find (is_round revisions change change.from) later ≡ None → sought revisions spans change ≡ earlier_round change.from
  sought-earlier low found =
      chosen (is_enclosed revisions spans change) (enclosed-all low) (outermost revisions spans change change.from)
      ∙ outermost-is change.from filled ∙ ap (λ one. or_else one (earlier_round change.from)) found

-- ---- the pair of a change

module _ (revisions : List Revision) (spans : List Span) (change : Span) where
  pub no_pair : is_change_at revisions change.revision ≡ false → pair_enclosed revisions spans change ≡ []
  no_pair other = rw other refl

  with_outer : (b : Bool) (one : Option Span) (x : Span) → (if b then one else None) ≡ Some x → (if (true && b) then pair_with change one else []) ≡ pair_of change x ∷ []
  with_outer true one x same = ap (pair_with change) same
  with_outer false one x same = cc

  pub one_pair : (x : Span) → is_change_at revisions change.revision ≡ true → sought revisions spans change ≡ Some x → pair_enclosed revisions spans change ≡ pair_of change x ∷ []
  one_pair x is same = rw is (with_outer (is_enclosed revisions spans change) (outermost revisions spans change change.from) x same)

  without : (b : Bool) (one : Option Span) → (if b then one else None) ≡ None → (if (true && b) then pair_with change one else []) ≡ []
  without true one same = ap (pair_with change) same
  without false one same = refl

  pub none_pair : is_change_at revisions change.revision ≡ true → sought revisions spans change ≡ None → pair_enclosed revisions spans change ≡ []
  none_pair is same = rw is (without (is_enclosed revisions spans change) (outermost revisions spans change change.from) same)
