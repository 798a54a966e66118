-- Elements of a labelled story that share a number are one element, or are of one move.
use Rattle.std.proofs.Common.{◌≡◌, ◌≢◌, ◌∙◌, ◌⊎◌, inl, inr, refl, ap, sym, subst, ℕ, zero, suc, ◌+◌, ◌<◌, ◌==◌, List, [], ◌∷◌, Bool, true, false, slice_get, Option, Some, None, unwrap_or, arith, if◌then◌else◌}
use Rattle.std.proofs.lemmas.Bool.{eqb-true, eq-eqb}
use Rattle.redl_sound.proofs.Numbered.Labelled.{HasLabel, HaveLabels, after_one}
use Rattle.redl_sound.specs.Names.{IsOneMove}
use Rattle.redl_stamp.specs.Attribute.{attribute_value}
use Rattle.redl_tree.specs.Model.Seen.{Seen}
use Rattle.redl_tree.specs.Revisions.Markers.{move_of, whole_role}
use Rattle.redl_tree.specs.Revisions.Moves.{Pair}
use Rattle.redl_tree.specs.Revisions.Numbers.{Membership, in_none, in_own, in_move, membership, Numbering, number_of_move, number_for, counted, counted_move, revision_of, start_with}
use Rattle.redl_tree.specs.declared.kinds.Kind.{Kind}
use Rattle.redl_tree.specs.declared.kinds.Kind.TheVariants.{Cell, Change, Content, Mark, Marker, Plain, Row}

-- the revision of an element that is in one, by its move
abbrev of_pair : Option Pair → Membership
of_pair None = in_own
of_pair (Some pair) = in_move pair.source.start.at

in_one : (kind : Kind) (p : Option Pair) → (membership kind p ≡ in_none) ⊎ (membership kind p ≡ of_pair p)
in_one Plain p = inl refl
in_one (Content x) None = inr refl
in_one (Content x) (Some pair) = inr refl
in_one (Mark x) None = inr refl
in_one (Mark x) (Some pair) = inr refl
in_one (Row x) None = inr refl
in_one (Row x) (Some pair) = inr refl
in_one (Cell x) None = inr refl
in_one (Cell x) (Some pair) = inr refl
in_one (Change x) None = inr refl
in_one (Change x) (Some pair) = inr refl
in_one Marker None = inr refl
in_one Marker (Some pair) = inr refl

-- ---- what the state of numbering knows

-- the moves that have a number have one each, below the next one
pub record IsFresh (s : Numbering) : Type 0 where
  pub below : (start number : ℕ) → number_of_move s.moves start ≡ Some number → number < s.next
  pub apart : (start other number : ℕ) → number_of_move s.moves start ≡ Some number → number_of_move s.moves other ≡ Some number → start ≡ other

-- this number was given to an element of its own, or to this move
abbrev IsGiven : Option Pair → ℕ → Numbering → Type 0
IsGiven None number s = (number < s.next) × ((start : ℕ) → number_of_move s.moves start ≡ Some number → ⊥)
IsGiven (Some pair) number s = number_of_move s.moves pair.source.start.at ≡ Some number

pub fresh-start : (next : ℕ) → IsFresh (start_with next)
fresh-start next = record { below = λ start number e. cc; apart = λ start other number e f. cc }

given-below : (p : Option Pair) (number : ℕ) (s : Numbering) → IsFresh s → IsGiven p number s → number < s.next
given-below None number s fresh given = given.0
given-below (Some pair) number s fresh given = fresh.below pair.source.start.at number given

-- ---- one element more

-- a move that has its first number now
module _ (s : Numbering) (fresh : IsFresh s) (now : ℕ) where
  abbrev with_now : ℕ → Bool → Option ℕ
  with_now start here = if here then Some s.next else number_of_move s.moves start

  new-below : (start number : ℕ) (here : Bool) → with_now start here ≡ Some number → number < s.next + 1
  new-below start number true e = let is : s.next ≡ number = cc in omega (arith, is)
  new-below start number false e = omega (arith, fresh.below start number e)

  new-apart : (start other number : ℕ) (here there : Bool) → (now == start) ≡ here → (now == other) ≡ there → with_now start here ≡ Some number
      → with_now other there ≡ Some number → start ≡ other
  new-apart start other number true true h t e f = sym (eqb-true now start h) ∙ eqb-true now other t
  new-apart start other number true false h t e f =
      let is : s.next ≡ number = cc in
      absurd (omega (arith, is, fresh.below other number f))
  new-apart start other number false true h t e f =
      let is : s.next ≡ number = cc in
      absurd (omega (arith, is, fresh.below start number e))
  new-apart start other number false false h t e f = fresh.apart start other number e f

  fresh-new : IsFresh (counted_move now None s)
  fresh-new = record {
    below = λ start number e. new-below start number (now == start) e;
    apart = λ start other number e f. new-apart start other number (now == start) (now == other) refl refl e f;
  }

  given-new : (p : Option Pair) (number : ℕ) → number_of_move s.moves now ≡ None → IsGiven p number s → IsGiven p number (counted_move now None s)
  given-new None number none given = (omega (arith, given.0), λ start e. at start (now == start) e)
    where
      at : (start : ℕ) (here : Bool) → with_now start here ≡ Some number → ⊥
      at start true e = let is : s.next ≡ number = cc in omega (arith, is, given.0)
      at start false e = given.1 start e
  given-new (Some pair) number none given = at (now == pair.source.start.at) refl
    where
      at : (here : Bool) → (now == pair.source.start.at) ≡ here → with_now pair.source.start.at here ≡ Some number
      at true h =
          let had : number_of_move s.moves now ≡ Some number = ap (number_of_move s.moves) (eqb-true now pair.source.start.at h) ∙ given in
          absurd (let wrong : None ≡ Some number = sym none ∙ had in cc)
      at false h = given

fresh-moved : (s : Numbering) → IsFresh s → (now : ℕ) (o : Option ℕ) → IsFresh (counted_move now o s)
fresh-moved s fresh now None = fresh-new s fresh now
fresh-moved s fresh now (Some number) = fresh

fresh-counted : (s : Numbering) → IsFresh s → (i : Membership) → IsFresh (counted i s)
fresh-counted s fresh in_none = fresh
fresh-counted s fresh in_own = record { below = λ start number e. omega (arith, fresh.below start number e); apart = fresh.apart }
fresh-counted s fresh (in_move now) = fresh-moved s fresh now (number_of_move s.moves now)

-- a number that was given stays given
given-own : (s : Numbering) (p : Option Pair) (number : ℕ) → IsGiven p number s → IsGiven p number (counted in_own s)
given-own s None number given = (omega (arith, given.0), given.1)
given-own s (Some pair) number given = given

given-moved : (s : Numbering) → IsFresh s → (p : Option Pair) (number : ℕ) → IsGiven p number s → (now : ℕ) (o : Option ℕ) → number_of_move s.moves now ≡ o
    → IsGiven p number (counted_move now o s)
given-moved s fresh p number given now None e = given-new s fresh now p number e given
given-moved s fresh p number given now (Some other) e = given

given-counted : (s : Numbering) → IsFresh s → (p : Option Pair) (number : ℕ) → IsGiven p number s → (i : Membership) → IsGiven p number (counted i s)
given-counted s fresh p number given in_none = given
given-counted s fresh p number given in_own = given-own s p number given
given-counted s fresh p number given (in_move now) = given-moved s fresh p number given now (number_of_move s.moves now) refl

-- an element's number is given to its revision
given-here : (s : Numbering) → IsFresh s → (p : Option Pair) (number : ℕ) → number ≡ number_for (of_pair p) s → IsGiven p number (counted (of_pair p) s)
given-here s fresh None number is = (omega (arith, is), λ start e. omega (arith, is, fresh.below start number e))
given-here s fresh (Some pair) number is = at (number_of_move s.moves pair.source.start.at) refl is
  where
    at : (o : Option ℕ) → number_of_move s.moves pair.source.start.at ≡ o → number ≡ unwrap_or o s.next
        → number_of_move (counted_move pair.source.start.at o s).moves pair.source.start.at ≡ Some number
    at None e is = same (pair.source.start.at == pair.source.start.at) (eq-eqb pair.source.start.at pair.source.start.at refl)
      where
        same : (b : Bool) → b ≡ true → (if b then Some s.next else number_of_move s.moves pair.source.start.at) ≡ Some number
        same true t = ap Some (sym is)
        same false t = cc
    at (Some given) e is = e ∙ ap Some (sym is)

-- a given number comes again on elements of its move alone
shared : (s : Numbering) → IsFresh s → (p q : Option Pair) (number : ℕ) → IsGiven p number s → number ≡ number_for (of_pair q) s → IsOneMove p q
shared s fresh None None number given is = absurd (omega (arith, given.0, is))
shared s fresh (Some pair) None number given is = absurd (omega (arith, fresh.below pair.source.start.at number given, is))
shared s fresh p (Some other) number given is = at p given (number_of_move s.moves other.source.start.at) refl is
  where
    at : (p : Option Pair) → IsGiven p number s → (o : Option ℕ) → number_of_move s.moves other.source.start.at ≡ o → number ≡ unwrap_or o s.next → IsOneMove p (Some other)
    at p given None e is = absurd (omega (arith, given-below p number s fresh given, is))
    at None given (Some n) e is = absurd (given.1 other.source.start.at (e ∙ ap Some (sym is)))
    at (Some pair) given (Some n) e is = fresh.apart pair.source.start.at other.source.start.at number given (e ∙ ap Some (sym is))

-- ---- the walk

one_move-sym : (p q : Option Pair) → IsOneMove p q → IsOneMove q p
one_move-sym None None h = h
one_move-sym None (Some q) h = h
one_move-sym (Some p) None h = h
one_move-sym (Some p) (Some q) h = sym h

module _ (moves : List Pair) where
  abbrev pair_of : Seen → Option Pair
  pair_of x = move_of attribute_value moves x

  -- a numbered element has the number of its revision
  own-number : (s : Numbering) (x : Seen) → HasLabel moves s x → x.own.tag.rev ≢ 0
      → (revision_of attribute_value moves x ≡ of_pair (pair_of x)) × (x.own.tag.rev ≡ number_for (of_pair (pair_of x)) s)
  own-number s x label some = at (in_one (whole_role attribute_value moves x) (pair_of x))
    where
      at : (revision_of attribute_value moves x ≡ in_none) ⊎ (revision_of attribute_value moves x ≡ of_pair (pair_of x))
          → (revision_of attribute_value moves x ≡ of_pair (pair_of x)) × (x.own.tag.rev ≡ number_for (of_pair (pair_of x)) s)
      at (inl none) = absurd (some (label.number ∙ ap (λ i. number_for i s) none))
      at (inr own) = (own, label.number ∙ ap (λ i. number_for i s) own)

  later-shared : (s : Numbering) (xs : List Seen) → HaveLabels moves s xs → IsFresh s → (p : Option Pair) (number : ℕ) → IsGiven p number s → number ≢ 0
      → (i : ℕ) (y : Seen) → slice_get xs i ≡ Some y → y.own.tag.rev ≡ number → IsOneMove p (pair_of y)
  later-shared s [] labels fresh p number given some i y at e = absurd (cc)
  later-shared s (x ∷ xs) labels fresh p number given some zero y at e =
      let is : x ≡ y = cc in
      let P : Seen → Type 0 = λ z. HasLabel moves s z in
      shared s fresh p (pair_of y) number given (sym e ∙ (own-number s y (subst P is labels.0) (λ zero. some (sym e ∙ zero))).1)
  later-shared s (x ∷ xs) labels fresh p number given some (suc i) y at e =
      let i' = revision_of attribute_value moves x in
      later-shared (after_one moves s x) xs labels.1 (fresh-counted s fresh i') p number (given-counted s fresh p number given i') some i y at e

  from-first : (s : Numbering) (x : Seen) (xs : List Seen) → HaveLabels moves s (x ∷ xs) → IsFresh s → x.own.tag.rev ≢ 0 → (i : ℕ) (y : Seen)
      → slice_get xs i ≡ Some y → y.own.tag.rev ≡ x.own.tag.rev → IsOneMove (pair_of x) (pair_of y)
  from-first s x xs labels fresh some i y at e =
      let own = own-number s x labels.0 some in
      let P : Membership → Type 0 = λ m. IsGiven (pair_of x) x.own.tag.rev (counted m s) in
      later-shared (after_one moves s x) xs labels.1 (fresh-counted s fresh (revision_of attribute_value moves x)) (pair_of x) x.own.tag.rev
      (subst P (sym own.0) (given-here s fresh (pair_of x) x.own.tag.rev own.1)) some i y at e

  pub shared-numbers : (s : Numbering) (xs : List Seen) → HaveLabels moves s xs → IsFresh s → (i j : ℕ) (x y : Seen) → slice_get xs i ≡ Some x
      → slice_get xs j ≡ Some y → x.own.tag.rev ≢ 0 → y.own.tag.rev ≡ x.own.tag.rev → (x ≡ y) ⊎ IsOneMove (pair_of x) (pair_of y)
  shared-numbers s [] labels fresh i j x y at there some e = absurd (cc)
  shared-numbers s (first ∷ xs) labels fresh zero zero x y at there some e = inl (let a : first ≡ x = cc in let b : first ≡ y = cc in sym a ∙ b)
  shared-numbers s (first ∷ xs) labels fresh zero (suc j) x y at there some e =
      let is : first ≡ x = cc in
      let P : Seen → Type 0 = λ z. HaveLabels moves s (z ∷ xs) in
      inr (from-first s x xs (subst P is labels) fresh some j y there e)
  shared-numbers s (first ∷ xs) labels fresh (suc i) zero x y at there some e =
      let is : first ≡ y = cc in
      let P : Seen → Type 0 = λ z. HaveLabels moves s (z ∷ xs) in
      inr (one_move-sym (pair_of y) (pair_of x) (from-first s y xs (subst P is labels) fresh (λ zero. some (sym e ∙ zero)) i x at (sym e)))
  shared-numbers s (first ∷ xs) labels fresh (suc i) (suc j) x y at there some e =
      shared-numbers (after_one moves s first) xs labels.1 (fresh-counted s fresh (revision_of attribute_value moves first)) i j x y at there some e
