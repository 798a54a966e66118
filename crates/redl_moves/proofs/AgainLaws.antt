-- The move that is open at a position, by the starts before it, is that of `pair_at`.
use Rattle.std.proofs.Common.{◌≡◌, ◌∙◌, refl, ap, sym, subst, cond, ℕ, ◌+◌, ◌≤◌, ◌<◌, ◌⊎◌, inl, inr, List, [], ◌∷◌, Bool, true, false, true≢false, ◌&&◌, nat_lt, bytes_eq, Option, Some, None, option_and_then, filter, filter_map, arith, if◌then◌else◌}
use Rattle.std.specs.List.{cons_option}
use Rattle.std.specs.Prelude.{not}
use Rattle.std.proofs.lemmas.Bool.{and_from}
use Rattle.std.specs.Cmp.{first_so, second_so}
use Rattle.redl_tree.specs.Revisions.Moves.{Edge, from_start, from_end, to_start, to_end, Marking, Range, Pair, same_edge, has_name, only_one, with_name, with_id, range_from, range_with_id, range_with_name, pair_with_name, pair_of, pairs, is_open_at, later, latest, pair_at}
use Rattle.redl_tree.proofs.Reading.SameBytes.{same_bytes, bytes_same}
use Rattle.redl_moves.specs.Marks.{RisesFrom}
use Rattle.redl_moves.specs.Opens.{start_of, or_this, find_last}
use Rattle.redl_moves.specs.Standing.{range_on, pair_begun, pair_open}
use Rattle.redl_moves.specs.declared.opens.Side.{Side}
use Rattle.redl_moves.specs.declared.opens.Side.TheVariants.{Source, Target}
use Rattle.redl_moves.proofs.StandingLaws.{pair_from-some}

-- ---- members of lists

-- an element is in a list
abbrev pub In : {X : Type 0} → X → List X → Type 0
In x [] = ⊥
In x (y ∷ ys) = (x ≡ y) ⊎ In x ys

in-filter : {X : Type 0} (f : X → Bool) (xs : List X) (x : X) → In x xs → f x ≡ true → In x (filter f xs)
in-filter f [] x i t = absurd i
in-filter f (y ∷ ys) x i t = by (f y) refl i (λ j. in-filter f ys x j t)
  where
    by : (b : Bool) → f y ≡ b → (x ≡ y) ⊎ In x ys → (In x ys → In x (filter f ys)) → In x (cond b (y ∷ filter f ys) (filter f ys))
    by true e (inl is) ih = inl is
    by true e (inr j) ih = inr (ih j)
    by false e (inl is) ih = absurd (true≢false (sym t ∙ ap f is ∙ e))
    by false e (inr j) ih = ih j

-- an element of a filtered list is in the list and passes the test
pub filter-in : {X : Type 0} (f : X → Bool) (xs : List X) (x : X) → In x (filter f xs) → In x xs × (f x ≡ true)
filter-in f [] x i = absurd i
filter-in f (y ∷ ys) x i = by (f y) refl i (filter-in f ys x)
  where
    by : (b : Bool) → f y ≡ b → In x (cond b (y ∷ filter f ys) (filter f ys)) → (In x (filter f ys) → In x ys × (f x ≡ true)) → In x (y ∷ ys) × (f x ≡ true)
    by true e (inl is) ih = (inl is, ap f is ∙ e)
    by true e (inr j) ih = let r = ih j in (inr r.0, r.1)
    by false e j ih = let r = ih j in (inr r.0, r.1)

in-map : {X Y : Type 0} (h : X → Option Y) (ms : List X) (m : X) (x : Y) → In m ms → h m ≡ Some x → In x (filter_map h ms)
in-map h [] m x i e = absurd i
in-map {Y = Y} h (n ∷ ms) m x i e = by (h n) refl i (λ j. in-map h ms m x j e)
  where
    by : (o : Option Y) → h n ≡ o → (m ≡ n) ⊎ In m ms → (In m ms → In x (filter_map h ms)) → In x (cons_option o (filter_map h ms))
    by None q (inl is) ih = let bad : Some x ≡ None = sym e ∙ ap h is ∙ q in absurd (cc)
    by None q (inr j) ih = ih j
    by (Some y) q (inl is) ih = let same : Some x ≡ Some y = sym e ∙ ap h is ∙ q in inl (cc)
    by (Some y) q (inr j) ih = inr (ih j)

pub map-in : {X Y : Type 0} (h : X → Option Y) (ms : List X) (x : Y) → In x (filter_map h ms) → (m : X) × In m ms × (h m ≡ Some x)
map-in h [] x i = absurd i
map-in {X = X} {Y = Y} h (n ∷ ms) x i = by (h n) refl i (map-in h ms x)
  where
    by : (o : Option Y) → h n ≡ o → In x (cons_option o (filter_map h ms)) → (In x (filter_map h ms) → (m : X) × In m ms × (h m ≡ Some x)) → (m : X) × In m (n ∷ ms) × (h m ≡ Some x)
    by None q j ih = let r = ih j in (r.0, inr r.1, r.2)
    by (Some y) q (inl is) ih = (n, inl refl, q ∙ ap Some (sym is))
    by (Some y) q (inr j) ih = let r = ih j in (r.0, inr r.1, r.2)

only-in : {X : Type 0} (xs : List X) (a : X) → only_one xs ≡ Some a → In a xs
only-in [] a e = absurd (cc)
only-in (x ∷ []) a e = inl (cc)
only-in (x ∷ y ∷ xs) a e = absurd (cc)

only-all : {X : Type 0} (xs : List X) (a b : X) → only_one xs ≡ Some a → In b xs → b ≡ a
only-all [] a b e i = absurd i
only-all (x ∷ []) a b e (inl is) = cc
only-all (x ∷ []) a b e (inr i) = absurd i
only-all (x ∷ y ∷ xs) a b e i = absurd (cc)

-- ---- the latest, and the last of a rising list

module _ (range_of : Pair → Range) where
  latest-none : (xs : List Pair) → latest range_of xs ≡ None → (x : Pair) → In x xs → ⊥
  latest-none [] e x i = i
  latest-none (y ∷ ys) e x i = by (latest range_of ys) e
    where
      pick : (b : Bool) (o : Pair) → (if b then Some y else Some o) ≡ None → ⊥
      pick true o e = cc
      pick false o e = cc

      by : (o : Option Pair) → later range_of y o ≡ None → ⊥
      by None e = cc
      by (Some o) e = pick (nat_lt (range_of o).start.at (range_of y).start.at) o e

  pub latest-some : (xs : List Pair) (p : Pair) → latest range_of xs ≡ Some p → In p xs × ((x : Pair) → In x xs → (range_of x).start.at ≤ (range_of p).start.at)
  latest-some [] p e = absurd (cc)
  latest-some (y ∷ ys) p e = by (latest range_of ys) refl e (latest-some ys)
    where
      at : Pair → ℕ
      at q = (range_of q).start.at

      less : (a b : ℕ) → nat_lt a b ≡ true → a ≤ b
      less a b e = grind arith

      more : (a b : ℕ) → nat_lt a b ≡ false → b ≤ a
      more a b e = grind arith

      first : (q : Pair) → y ≡ q → ((x : Pair) → In x ys → (range_of x).start.at ≤ (range_of y).start.at) → (x : Pair) → (x ≡ y) ⊎ In x ys → (range_of x).start.at ≤ (range_of q).start.at
      first q is all x (inl j) = omega (arith, ap (λ (z : Pair). (range_of z).start.at) j, ap (λ (z : Pair). (range_of z).start.at) is)
      first q is all x (inr j) = omega (arith, all x j, ap (λ (z : Pair). (range_of z).start.at) is)

      second : (q : Pair) → (range_of y).start.at ≤ (range_of q).start.at → ((x : Pair) → In x ys → (range_of x).start.at ≤ (range_of q).start.at) → (x : Pair) → (x ≡ y) ⊎ In x ys → (range_of x).start.at ≤ (range_of q).start.at
      second q h all x (inl j) = omega (arith, h, ap (λ (z : Pair). (range_of z).start.at) j)
      second q h all x (inr j) = all x j

      pick : (b : Bool) (o : Pair) → nat_lt (range_of o).start.at (range_of y).start.at ≡ b → (if b then Some y else Some o) ≡ Some p →
          In o ys × ((x : Pair) → In x ys → (range_of x).start.at ≤ (range_of o).start.at) → In p (y ∷ ys) × ((x : Pair) → In x (y ∷ ys) → (range_of x).start.at ≤ (range_of p).start.at)
      pick true o t e ih =
          let is : y ≡ p = cc in
          (inl (sym is), first p is (λ x j. omega (arith, ih.1 x j, less (range_of o).start.at (range_of y).start.at t)))
      pick false o t e ih =
          let is : o ≡ p = cc in
          let P : Pair → Type 0 = λ q. In q (y ∷ ys) × ((x : Pair) → In x (y ∷ ys) → (range_of x).start.at ≤ (range_of q).start.at) in
          subst P is (inr ih.0, second o (more (range_of o).start.at (range_of y).start.at t) ih.1)

      by : (o : Option Pair) → latest range_of ys ≡ o → later range_of y o ≡ Some p →
          ((q : Pair) → latest range_of ys ≡ Some q → In q ys × ((x : Pair) → In x ys → (range_of x).start.at ≤ (range_of q).start.at)) →
          In p (y ∷ ys) × ((x : Pair) → In x (y ∷ ys) → (range_of x).start.at ≤ (range_of p).start.at)
      by None n e ih = let is : y ≡ p = cc in (inl (sym is), first p is (λ x j. absurd (latest-none ys n x j)))
      by (Some o) n e ih = pick (nat_lt (range_of o).start.at (range_of y).start.at) o refl e (ih o n)

  -- each starts before those after it
  abbrev pub Rising : List Pair → Type 0
  Rising [] = Unit {0}
  Rising (x ∷ xs) = ((y : Pair) → In y xs → (range_of x).start.at < (range_of y).start.at) × Rising xs

  find-none : (t : Pair → Bool) (xs : List Pair) → find_last t xs ≡ None → (x : Pair) → In x xs → t x ≡ true → ⊥
  find-none t [] e x i h = i
  find-none t (y ∷ ys) e x i h = by (find_last t ys) (t y) refl refl e i (find-none t ys)
    where
      by : (o : Option Pair) (b : Bool) → find_last t ys ≡ o → t y ≡ b → or_this b y o ≡ None → (x ≡ y) ⊎ In x ys → (find_last t ys ≡ None → (x : Pair) → In x ys → t x ≡ true → ⊥) → ⊥
      by (Some o) b n q e i ih = absurd (cc)
      by None true n q e i ih = absurd (cc)
      by None false n q e (inl is) ih = true≢false (sym h ∙ ap t is ∙ q)
      by None false n q e (inr j) ih = ih n x j h

  find-some : (t : Pair → Bool) (xs : List Pair) (p : Pair) → Rising xs → find_last t xs ≡ Some p →
      In p xs × (t p ≡ true) × ((x : Pair) → In x xs → t x ≡ true → (range_of x).start.at ≤ (range_of p).start.at)
  find-some t [] p r e = absurd (cc)
  find-some t (y ∷ ys) p r e = by (find_last t ys) (t y) refl refl e (λ q. find-some t ys q r.1)
    where
      last : (q : Pair) → In q ys → ((x : Pair) → In x ys → t x ≡ true → (range_of x).start.at ≤ (range_of q).start.at) → (x : Pair) → (x ≡ y) ⊎ In x ys → t x ≡ true → (range_of x).start.at ≤ (range_of q).start.at
      last q i all x (inl is) h = omega (arith, r.0 q i, ap (λ (z : Pair). (range_of z).start.at) is)
      last q i all x (inr j) h = all x j h

      own : (q : Pair) → y ≡ q → (x : Pair) → (x ≡ y) ⊎ In x ys → t x ≡ true → find_last t ys ≡ None → (range_of x).start.at ≤ (range_of q).start.at
      own q is x (inl j) h n = omega (arith, ap (λ (z : Pair). (range_of z).start.at) j, ap (λ (z : Pair). (range_of z).start.at) is)
      own q is x (inr j) h n = absurd (find-none t ys n x j h)

      by : (o : Option Pair) (b : Bool) → find_last t ys ≡ o → t y ≡ b → or_this b y o ≡ Some p →
          ((q : Pair) → find_last t ys ≡ Some q → In q ys × (t q ≡ true) × ((x : Pair) → In x ys → t x ≡ true → (range_of x).start.at ≤ (range_of q).start.at)) →
          In p (y ∷ ys) × (t p ≡ true) × ((x : Pair) → In x (y ∷ ys) → t x ≡ true → (range_of x).start.at ≤ (range_of p).start.at)
      by (Some o) b n q e ih =
          let is : o ≡ p = cc in
          let P : Pair → Type 0 = λ z. In z (y ∷ ys) × (t z ≡ true) × ((x : Pair) → In x (y ∷ ys) → t x ≡ true → (range_of x).start.at ≤ (range_of z).start.at) in
          let r = ih o n in
          subst P is (inr r.0, r.1, last o r.0 r.2)
      by None true n q e ih = let is : y ≡ p = cc in (inl (sym is), sym (ap t is) ∙ q, λ x i h. own p is x i h n)
      by None false n q e ih = absurd (cc)

  same-place : (xs : List Pair) → Rising xs → (a b : Pair) → In a xs → In b xs → (range_of a).start.at ≡ (range_of b).start.at → a ≡ b
  same-place [] r a b i j e = absurd i
  same-place (y ∷ ys) r a b (inl i) (inl j) e = i ∙ sym j
  same-place (y ∷ ys) r a b (inl i) (inr j) e = absurd (omega (arith, r.0 b j, e, ap (λ (z : Pair). (range_of z).start.at) i))
  same-place (y ∷ ys) r a b (inr i) (inl j) e = absurd (omega (arith, r.0 a i, e, ap (λ (z : Pair). (range_of z).start.at) j))
  same-place (y ∷ ys) r a b (inr i) (inr j) e = same-place ys r.1 a b i j e

  -- the same members: the latest of the ones is the last of the others
  pub latest-last : (t : Pair → Bool) (xs ys : List Pair) → Rising ys → ((x : Pair) → In x xs → In x ys × (t x ≡ true)) → ((y : Pair) → In y ys → t y ≡ true → In y xs) →
      latest range_of xs ≡ find_last t ys
  latest-last t xs ys r to_ys to_xs = by (latest range_of xs) (find_last t ys) refl refl
    where
      by : (a b : Option Pair) → latest range_of xs ≡ a → find_last t ys ≡ b → a ≡ b
      by None None p q = refl
      by None (Some y) p q = let f = find-some t ys y r q in absurd (latest-none xs p y (to_xs y f.0 f.1))
      by (Some x) None p q = let l = latest-some xs x p in let g = to_ys x l.0 in absurd (find-none t ys q x g.0 g.1)
      by (Some x) (Some y) p q =
          let l = latest-some xs x p in
          let f = find-some t ys y r q in
          let g = to_ys x l.0 in
          ap Some (same-place ys r x y g.0 f.0 (omega (arith, l.1 y (to_xs y f.0 f.1), f.2 x g.0 g.1)))

-- ---- the starts of moves

and_then-both : {X Y : Type 0} (f : X → Option Y) (o : Option X) (y : Y) → option_and_then f o ≡ Some y → (x : X) × (o ≡ Some x) × (f x ≡ Some y)
and_then-both f None y e = absurd (cc)
and_then-both f (Some x) y e = (x, refl, e)

range_from-start : (a b : Option Marking) (range : Range) → range_from a b ≡ Some range → a ≡ Some range.start
range_from-start None b range e = absurd (cc)
range_from-start (Some start) None range e = absurd (cc)
range_from-start (Some start) (Some end) range e = by (nat_lt start.at end.at && not start.loose && not end.loose) e
  where
    by : (t : Bool) → (if t then Some (record { start = start; end = end }) else None) ≡ Some range → Some start ≡ Some range.start
    by true e = let is : record { start = start; end = end } ≡ range = cc in ap (λ (r : Range). Some r.start) is
    by false e = absurd (cc)

rises-in : (from : ℕ) (ms : List Marking) (m : Marking) → RisesFrom from ms → In m ms → from ≤ m.at
rises-in from [] m r i = absurd i
rises-in from (x ∷ ms) m r (inl is) = omega (arith, r.0, ap (λ (y : Marking). y.at) is)
rises-in from (x ∷ ms) m r (inr j) = omega (arith, r.0, rises-in (x.at + 1) ms m r.1 j)

module _ (marks : List Marking) where
  range-start : (s e : Edge) (name : List ℕ) (range : Range) → range_with_name s e marks name ≡ Some range → only_one (with_name s name marks) ≡ Some range.start
  range-start s e name range q =
      let named = and_then-both (λ (m : Marking). range_with_id s e marks m.id) (only_one (with_name s name marks)) range q in
      let m = named.0 in
      let start = range_from-start (only_one (with_id s m.id marks)) (only_one (with_id e m.id marks)) range named.2 in
      let has = filter-in (λ x. same_edge x.edge s && has_name name x.name) marks m (only-in (with_name s name marks) m named.1) in
      let there = in-filter (λ x. same_edge x.edge s && bytes_eq x.id m.id) marks m has.0
      (and_from (same_edge m.edge s) (bytes_eq m.id m.id) (first_so (same_edge m.edge s) (has_name name m.name) has.1) (bytes_same m.id)) in
      named.1 ∙ ap Some (only-all (with_id s m.id marks) range.start m start there)

  range_of-start : (side : Side) (name : List ℕ) (pair : Pair) → pair_with_name marks name ≡ Some pair →
      only_one (with_name (start_of side) name marks) ≡ Some (range_on side pair).start
  range_of-start Source name pair e =
      range-start from_start from_end name pair.source (pair_from-some (range_with_name from_start from_end marks name) (range_with_name to_start to_end marks name) pair e).0
  range_of-start Target name pair e =
      range-start to_start to_end name pair.target (pair_from-some (range_with_name from_start from_end marks name) (range_with_name to_start to_end marks name) pair e).1

  pub named : (edge : Edge) (m : Marking) (pair : Pair) → pair_begun edge marks m ≡ Some pair →
      (name : List ℕ) × (same_edge m.edge edge ≡ true) × (m.name ≡ Some name) × (pair_with_name marks name ≡ Some pair)
  named edge m pair e = by (same_edge m.edge edge) refl m.name refl e
    where
      by : (b : Bool) → same_edge m.edge edge ≡ b → (o : Option (List ℕ)) → m.name ≡ o → (if b then option_and_then (pair_with_name marks) o else None) ≡ Some pair →
          (name : List ℕ) × (same_edge m.edge edge ≡ true) × (m.name ≡ Some name) × (pair_with_name marks name ≡ Some pair)
      by false p o q e = absurd (cc)
      by true p None q e = absurd (cc)
      by true p (Some n) q e = (n, p, q, e)

  begun-again : (edge : Edge) (m : Marking) (name : List ℕ) (pair : Pair) → same_edge m.edge edge ≡ true → has_name name m.name ≡ true →
      pair_with_name marks name ≡ Some pair → pair_begun edge marks m ≡ Some pair
  begun-again edge m name pair same has e = ap (λ b. if b then option_and_then (pair_with_name marks) m.name else None) same ∙ by m.name has
    where
      by : (o : Option (List ℕ)) → has_name name o ≡ true → option_and_then (pair_with_name marks) o ≡ Some pair
      by None h = absurd (true≢false (sym h))
      by (Some other) h = ap (pair_with_name marks) (same_bytes other name h) ∙ e

  pub start-again : (side : Side) (name : List ℕ) (pair : Pair) → pair_with_name marks name ≡ Some pair →
      In (range_on side pair).start marks × (pair_begun (start_of side) marks (range_on side pair).start ≡ Some pair)
  start-again side name pair e =
      let st = (range_on side pair).start in
      let edge = start_of side in
      let has = filter-in (λ x. same_edge x.edge edge && has_name name x.name) marks st (only-in (with_name edge name marks) st (range_of-start side name pair e)) in
      (has.0, begun-again edge st name pair (first_so (same_edge st.edge edge) (has_name name st.name) has.1) (second_so (same_edge st.edge edge) (has_name name st.name) has.1) e)

  start-is : (side : Side) (m : Marking) (pair : Pair) → In m marks → pair_begun (start_of side) marks m ≡ Some pair → m ≡ (range_on side pair).start
  start-is side m pair i e =
      let edge = start_of side in
      let n = named edge m pair e in
      let there = in-filter (λ x. same_edge x.edge edge && has_name n.0 x.name) marks m i
      (and_from (same_edge m.edge edge) (has_name n.0 m.name) n.1 (ap (has_name n.0) n.2 ∙ bytes_same n.0)) in
      only-all (with_name edge n.0 marks) (range_on side pair).start m (range_of-start side n.0 pair n.3) there

  rising : (side : Side) (f : Marking → Bool) (from : ℕ) (ms : List Marking) → RisesFrom from ms → ((m : Marking) → In m ms → In m marks) →
      Rising (range_on side) (filter_map (pair_begun (start_of side) marks) (filter f ms))
  rising side f from [] r sub = tt
  rising side f from (m ∷ ms) r sub = by (f m) (pair_begun (start_of side) marks m) refl (rising side f (m.at + 1) ms r.1 (λ x i. sub x (inr i)))
    where
      h : Marking → Option Pair
      h = pair_begun (start_of side) marks

      after_it : (p q : Pair) → pair_begun (start_of side) marks m ≡ Some p → In q (filter_map (pair_begun (start_of side) marks) (filter f ms)) →
          (range_on side p).start.at < (range_on side q).start.at
      after_it p q e i =
          let found = map-in (pair_begun (start_of side) marks) (filter f ms) q i in
          let there = filter-in f ms found.0 found.1 in
          omega (
            arith,
            ap (λ (y : Marking). y.at) (start-is side m p (sub m (inl refl)) e),
            ap (λ (y : Marking). y.at) (start-is side found.0 q (sub found.0 (inr there.0)) found.2),
            rises-in (m.at + 1) ms found.0 r.1 there.0,
          )

      by : (b : Bool) (o : Option Pair) → pair_begun (start_of side) marks m ≡ o →
          Rising (range_on side) (filter_map (pair_begun (start_of side) marks) (filter f ms)) →
          Rising (range_on side) (filter_map (pair_begun (start_of side) marks) (cond b (m ∷ filter f ms) (filter f ms)))
      by false o e ih = ih
      by true None e ih = let P : Option Pair → Type 0 = λ z. Rising (range_on side) (cons_option z (filter_map (pair_begun (start_of side) marks) (filter f ms))) in subst P (sym e) ih
      by true (Some p) e ih =
          let P : Option Pair → Type 0 = λ z. Rising (range_on side) (cons_option z (filter_map (pair_begun (start_of side) marks) (filter f ms))) in
          subst P (sym e) (λ q i. after_it p q e i, ih)

  -- THE TWO DEFINITIONS ARE ONE: the latest of the open moves is the last, by its start, of those that end after the position
  pub pair_at-open : (side : Side) (at : ℕ) → RisesFrom 0 marks → pair_at (range_on side) at (pairs marks) ≡ pair_open side at marks
  pair_at-open side at rises =
      let range_of = range_on side in
      let edge = start_of side in
      let opened : Pair → Bool = λ p. is_open_at at (range_of p) in
      let before : Marking → Bool = λ m. nat_lt m.at at in
      let ends : Pair → Bool = λ p. nat_lt at (range_of p).end.at in
      latest-last range_of ends (filter opened (pairs marks)) (filter_map (pair_begun edge marks) (filter before marks))
      (rising side before 0 marks rises (λ m i. i))
      (λ x i.
      let has = filter-in opened (pairs marks) x i in
      let own = map-in (pair_of marks) marks x has.0 in
      let name = named from_start own.0 x own.2 in
      let start = start-again side name.0 x name.3 in (
        in-map (pair_begun edge marks) (filter before marks) (range_of x).start x
            (in-filter before marks (range_of x).start start.0 (first_so (nat_lt (range_of x).start.at at) (nat_lt at (range_of x).end.at) has.1)) start.1,
        second_so (nat_lt (range_of x).start.at at) (nat_lt at (range_of x).end.at) has.1,
      ))
      (λ y i t.
      let own = map-in (pair_begun edge marks) (filter before marks) y i in
      let there = filter-in before marks own.0 own.1 in
      let name = named edge own.0 y own.2 in
      let source = start-again Source name.0 y name.3 in
      in-filter opened (pairs marks) y (in-map (pair_of marks) marks y.source.start y source.0 source.1)
      (and_from (nat_lt (range_of y).start.at at) (nat_lt at (range_of y).end.at)
      (sym (ap before (start-is side own.0 y there.0 own.2)) ∙ there.1) t))
