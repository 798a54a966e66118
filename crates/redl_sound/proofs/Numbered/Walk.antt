-- The walk over the elements of a labelled story, beside the first mentions of its revisions: the number on an element is the place
-- of the first mention of its revision, counted from that of the story.
use Rattle.std.proofs.Common.{◌≡◌, ◌∙◌, refl, ap, sym, subst, ℕ, zero, suc, ◌+◌, ◌<◌, ◌≤◌, ◌==◌, ◌||◌, not, List, [], ◌∷◌, ◌++◌, Bool, true, false, filter_map, map, length, get_or, slice_get, Option, Some, None, is_some, unwrap_or, append-nil, append_assoc, length-append, arith, if◌then◌else◌}
use Rattle.std.specs.List.{cons_option, list_any}
use Rattle.std.proofs.lemmas.Option.{slice_get_within}
use Rattle.std.proofs.Math.Bool.{or-true, or-false}
use Rattle.std.proofs.lemmas.Bool.{eqb-true}
use Rattle.redl_tree.specs.Model.Seen.{Seen}
use Rattle.redl_tree.specs.Revisions.Markers.{move_of, whole_role}
use Rattle.redl_tree.specs.Revisions.Moves.{Marking, Pair, pairs, place_of}
use Rattle.redl_tree.specs.Revisions.Numbers.{Membership, in_own, Numbering, number_of_move, number_for, counted, counted_move, revision_of}
use Rattle.redl_stamp.specs.Attribute.{attribute_value}
use Rattle.redl_index.specs.Mentions.{Mention, sight_in}
use Rattle.redl_index.specs.Revisions.{starts_at, is_of, is_new, firsts}
use Rattle.redl_kinds.specs.declared.rev_kind.RevKind.TheVariants.{Move}
use Rattle.redl_sound.proofs.Numbered.Lists.{IsPlaced, at-end, at-left}
use Rattle.redl_sound.proofs.Numbered.Labelled.{HaveLabels, Rise}
use Rattle.redl_sound.proofs.Numbered.Mentions.{in_its, in_mention, Mentions, IsMentioned, mention-in, mention-is}

-- ---- what a walk knows

-- an element of the story with the number of this place stands before that position
pub record Earlier (story : List Seen) (base place position : ℕ) : Type 0 where
  pub element : Seen
  pub among : IsPlaced story element
  pub number : element.own.tag.rev ≡ base + place
  pub before : element.own.start < position

-- The number of an element that makes this mention is that of a place, where the first mention of its revision stands. Elements
-- with each lower number stand before it.
pub record Numbered (base : ℕ) (all : List Mention) (story : List Seen) (x : Seen) (m : Mention) : Type 0 where
  pub place : ℕ
  pub number : x.own.tag.rev ≡ base + place
  pub first : Mention
  pub listed : slice_get all place ≡ Some first
  pub kind : first.kind ≡ m.kind
  pub tail : first.tail ≡ m.tail
  pub earlier : (lower : ℕ) → lower < place → Earlier story base lower x.own.start

abbrev pub IsNumbered : ℕ → List Mention → List Seen → Seen → Option Mention → Type 0
IsNumbered base all story x None = x.own.tag.rev ≡ 0
IsNumbered base all story x (Some m) = Numbered base all story x m

-- the place of a move that has a number, and its first mention there
pub record IsMove (marks : List Marking) (tails : List (List ℕ)) (base : ℕ) (got : List Mention) (start given : ℕ) : Type 0 where
  pub place : ℕ
  pub number : given ≡ base + place
  pub first : Mention
  pub listed : slice_get got place ≡ Some first
  pub kind : first.kind ≡ Move
  pub tail : first.tail ≡ get_or tails (place_of marks start) []

-- after these mentions, of which these are the first ones of their revisions, and before the elements from this position on
pub record IsSoFar (marks : List Marking) (tails : List (List ℕ)) (base : ℕ) (story : List Seen) (done got : List Mention) (s : Numbering) (at : ℕ) : Type 0 where
  pub next : s.next ≡ base + length got
  pub known : (k : ℕ) → is_some (number_of_move s.moves k) ≡ list_any (is_of k) done
  pub moves : (k n : ℕ) → number_of_move s.moves k ≡ Some n → IsMove marks tails base got k n
  pub earlier : (place : ℕ) → place < length got → Earlier story base place at

-- ---- small laws

other : (a b : ℕ) → (a == b) ≡ false → a < b + 1 → a < b
other a b e h = grind (arith, e, h)

any-more : (s : ℕ) (xs : List Mention) (m : Mention) → list_any (is_of s) (xs ++ m ∷ []) ≡ (list_any (is_of s) xs || is_of s m)
any-more s [] m = or-false (is_of s m)
any-more s (x ∷ xs) m = by (is_of s x) (any-more s xs m)
  where
    by : (b : Bool) → list_any (is_of s) (xs ++ m ∷ []) ≡ (list_any (is_of s) xs || is_of s m) →
        (b || list_any (is_of s) (xs ++ m ∷ [])) ≡ ((b || list_any (is_of s) xs) || is_of s m)
    by true ih = refl
    by false ih = ih

later-position : (story : List Seen) (base place lo hi : ℕ) → lo ≤ hi → Earlier story base place lo → Earlier story base place hi
later-position story base place lo hi h e = record { element = e.element; among = e.among; number = e.number; before = omega (arith, h, e.before) }

one-longer : (got : List Mention) (m : Mention) → length (got ++ m ∷ []) ≡ length got + 1
one-longer got m = omega (arith, length-append got (m ∷ []))

-- ---- one element more

module _ (marks : List Marking) (tails : List (List ℕ)) (base : ℕ) (story : List Seen) (done got : List Mention) (s : Numbering) (at : ℕ)
    (had : IsSoFar marks tails base story done got s at) (x : Seen) (rise : at ≤ x.own.start) where
  abbrev Has : Numbering → List Mention → List Mention → Type 0
  Has so_far done got = IsSoFar marks tails base story done got so_far (x.own.start + 1)

  still-earlier : (place : ℕ) → place < length got → Earlier story base place (x.own.start + 1)
  still-earlier place within = later-position story base place at (x.own.start + 1) (omega (arith, rise)) (had.earlier place within)

  -- the element is in no revision
  pub so-far-none : Has s done got
  so-far-none = record { next = had.next; known = had.known; moves = had.moves; earlier = still-earlier }

  module _ (m : Mention) where
    move-stays : (k n : ℕ) → IsMove marks tails base got k n → IsMove marks tails base (got ++ m ∷ []) k n
    move-stays k n h = record {
      place = h.place;
      number = h.number;
      first = h.first;
      listed = at-left got (m ∷ []) h.place h.first h.listed;
      kind = h.kind;
      tail = h.tail;
    }

    earlier-new : IsPlaced story x → x.own.tag.rev ≡ s.next → (place : ℕ) → place < length (got ++ m ∷ []) → Earlier story base place (x.own.start + 1)
    earlier-new there number place within = by (place == length got) refl
      where
        by : (b : Bool) → (place == length got) ≡ b → Earlier story base place (x.own.start + 1)
        by true e = record {
          element = x;
          among = there;
          number = number ∙ had.next ∙ ap (λ n. base + n) (sym (eqb-true place (length got) e));
          before = omega arith;
        }
        by false e = still-earlier place (other place (length got) e (omega (arith, within, one-longer got m)))

    next-new : s.next + 1 ≡ base + length (got ++ m ∷ [])
    next-new = omega (arith, had.next, one-longer got m)

    -- the element is in a revision of its own
    pub so-far-own : IsPlaced story x → x.own.tag.rev ≡ s.next → m.move ≡ None → Has (counted in_own s) (done ++ m ∷ []) (got ++ m ∷ [])
    so-far-own there number is = record {
      next = next-new;
      known = λ k. had.known k ∙ sym (any-more k done m ∙ ap (λ o. list_any (is_of k) done || starts_at k o) is ∙ or-false (list_any (is_of k) done));
      moves = λ k n e. move-stays k n (had.moves k n e);
      earlier = earlier-new there number;
    }

    -- the element is in a move that has no number yet
    pub so-far-new : IsPlaced story x → x.own.tag.rev ≡ s.next → (t : ℕ) → m.move ≡ Some t → m.kind ≡ Move → m.tail ≡ get_or tails (place_of marks t) []
        → Has (counted_move t None s) (done ++ m ∷ []) (got ++ m ∷ [])
    so-far-new there number t is kind tail = record {
      next = next-new;
      known = λ k. known k (t == k) ∙ sym (any-more k done m ∙ ap (λ o. list_any (is_of k) done || starts_at k o) is);
      moves = λ k n e. moves k n (t == k) refl e;
      earlier = earlier-new there number;
    }
      where
        known : (k : ℕ) (b : Bool) → is_some (if b then Some s.next else number_of_move s.moves k) ≡ (list_any (is_of k) done || b)
        known k true = sym (or-true (list_any (is_of k) done))
        known k false = had.known k ∙ sym (or-false (list_any (is_of k) done))

        moves : (k n : ℕ) (b : Bool) → (t == k) ≡ b → (if b then Some s.next else number_of_move s.moves k) ≡ Some n → IsMove marks tails base (got ++ m ∷ []) k n
        moves k n true e h =
            let at : t ≡ k = eqb-true t k e in
            let is_n : s.next ≡ n = cc in
            record {
              place = length got;
              number = sym is_n ∙ had.next;
              first = m;
              listed = at-end got [] m;
              kind = kind;
              tail = tail ∙ ap (λ y. get_or tails (place_of marks y) []) at;
            }
        moves k n false e h = move-stays k n (had.moves k n h)

    -- the element is in a move that has a number
    pub so-far-again : (t n : ℕ) → m.move ≡ Some t → number_of_move s.moves t ≡ Some n → Has s (done ++ m ∷ []) got
    so-far-again t n is named = record {
      next = had.next;
      known = λ k. known k (t == k) refl ∙ sym (any-more k done m ∙ ap (λ o. list_any (is_of k) done || starts_at k o) is);
      moves = had.moves;
      earlier = still-earlier;
    }
      where
        known : (k : ℕ) (b : Bool) → (t == k) ≡ b → is_some (number_of_move s.moves k) ≡ (list_any (is_of k) done || t == k)
        known k true e = ap (λ y. is_some (number_of_move s.moves y)) (sym (eqb-true t k e)) ∙ ap is_some named
            ∙ sym (ap (λ b. list_any (is_of k) done || b) e ∙ or-true (list_any (is_of k) done))
        known k false e = had.known k ∙ sym (ap (λ b. list_any (is_of k) done || b) e ∙ or-false (list_any (is_of k) done))

-- ---- the walk

module _ (marks : List Marking) (tails : List (List ℕ)) (base : ℕ) (all : List Mention) (story : List Seen) where
  abbrev pub mention_of : Seen → Option Mention
  mention_of x = (sight_in marks tails x).mention

  abbrev pub mentions_of : List Seen → List Mention
  mentions_of xs = filter_map (λ sight. sight.mention) (map (sight_in marks tails) xs)

  -- each of these elements has its number, and each number has an element
  abbrev pub AreNumbered : List Seen → Type 0
  AreNumbered xs = (i : ℕ) (x : Seen) → slice_get xs i ≡ Some x → IsNumbered base all story x (mention_of x)

  abbrev pub AreAll : Type 0
  AreAll = (place : ℕ) → place < length all → (x : Seen) × IsPlaced story x × (x.own.tag.rev ≡ base + place)

  abbrev SoFar : List Mention → List Mention → Numbering → ℕ → Type 0
  SoFar done got s at = IsSoFar marks tails base story done got s at

  abbrev Rest : List Seen → Type 0
  Rest xs = (s : Numbering) (done got : List Mention) (at : ℕ) → SoFar done got s at → all ≡ got ++ firsts done (mentions_of xs)
      → HaveLabels (pairs marks) s xs → Rise at xs → AreNumbered xs × AreAll

  with-first : (x : Seen) (xs : List Seen) → IsNumbered base all story x (mention_of x) → AreNumbered xs × AreAll → AreNumbered (x ∷ xs) × AreAll
  with-first x xs here later = (by, later.1)
    where
      by : (i : ℕ) (y : Seen) → slice_get (x ∷ xs) i ≡ Some y → IsNumbered base all story y (mention_of y)
      by zero y e =
          let P : Seen → Type 0 = λ z. IsNumbered base all story z (mention_of z) in
          let is : x ≡ y = cc in
          subst P is here
      by (suc i) y e = later.0 i y e

  -- the numbers of an element with this mention
  module _ (s : Numbering) (done got : List Mention) (at : ℕ) (had : SoFar done got s at) (x : Seen) (xs : List Seen) (rise : at ≤ x.own.start)
      (rises : Rise (x.own.start + 1) xs) (there : IsPlaced story x) (m : Mention) (rest : Rest xs) where
    abbrev ms : List Mention
    ms = mentions_of xs

    abbrev with_m : List Mention → List Mention
    with_m before = before ++ m ∷ []

    abbrev Whole : Type 0
    Whole = Numbered base all story x m × (AreNumbered xs × AreAll)

    first-is : x.own.tag.rev ≡ s.next → all ≡ got ++ m ∷ firsts (with_m done) ms → Numbered base all story x m
    first-is number is = record {
      place = length got;
      number = number ∙ had.next;
      first = m;
      listed = ap (λ l. slice_get l (length got)) is ∙ at-end got (firsts (with_m done) ms) m;
      kind = refl;
      tail = refl;
      earlier = λ lower within. later-position story base lower at x.own.start rise (had.earlier lower within);
    }

    split : all ≡ got ++ m ∷ firsts (with_m done) ms → all ≡ with_m got ++ firsts (with_m done) ms
    split is = is ∙ sym (append_assoc got (m ∷ []) (firsts (with_m done) ms))

    is-first : all ≡ got ++ (if is_new done m.move then m ∷ firsts (with_m done) ms else firsts (with_m done) ms) → is_new done m.move ≡ true
        → all ≡ got ++ m ∷ firsts (with_m done) ms
    is-first is new = is ∙ ap (λ b. got ++ (if b then m ∷ firsts (with_m done) ms else firsts (with_m done) ms)) new

    is-old : all ≡ got ++ (if is_new done m.move then m ∷ firsts (with_m done) ms else firsts (with_m done) ms) → is_new done m.move ≡ false
        → all ≡ got ++ firsts (with_m done) ms
    is-old is old = is ∙ ap (λ b. got ++ (if b then m ∷ firsts (with_m done) ms else firsts (with_m done) ms)) old

    own : all ≡ got ++ (if is_new done m.move then m ∷ firsts (with_m done) ms else firsts (with_m done) ms) → m.move ≡ None
        → x.own.tag.rev ≡ number_for (in_its m.move) s → HaveLabels (pairs marks) (counted (in_its m.move) s) xs → Whole
    own is none number labels =
        let front = is-first is (ap (is_new done) none) in
        let next : x.own.tag.rev ≡ s.next = number ∙ ap (λ o. number_for (in_its o) s) none in
        let P : Option ℕ → Type 0 = λ o. HaveLabels (pairs marks) (counted (in_its o) s) xs in (
          first-is next front,
          rest (counted in_own s) (with_m done) (with_m got) (x.own.start + 1) (so-far-own marks tails base story done got s at had x rise m there next none) (split front)
              (subst P none labels) rises,
        )

    moved : all ≡ got ++ (if is_new done m.move then m ∷ firsts (with_m done) ms else firsts (with_m done) ms) → (t : ℕ) → m.move ≡ Some t → m.kind ≡ Move
        → m.tail ≡ get_or tails (place_of marks t) [] → x.own.tag.rev ≡ number_for (in_its m.move) s → HaveLabels (pairs marks) (counted (in_its m.move) s) xs → Whole
    moved is t some kind tail number labels =
        let P : Option ℕ → Type 0 = λ o. HaveLabels (pairs marks) (counted (in_its o) s) xs in
        by (number_of_move s.moves t) refl (number ∙ ap (λ o. number_for (in_its o) s) some) (subst P some labels)
      where
        new : (o : Option ℕ) → number_of_move s.moves t ≡ o → is_new done m.move ≡ not (is_some o)
        new o e = ap (is_new done) some ∙ ap not (sym (had.known t) ∙ ap is_some e)

        by : (o : Option ℕ) → number_of_move s.moves t ≡ o → x.own.tag.rev ≡ unwrap_or o s.next → HaveLabels (pairs marks) (counted_move t o s) xs → Whole
        by None e number labels =
            let front = is-first is (new None e) in (
              first-is number front,
              rest (counted_move t None s) (with_m done) (with_m got) (x.own.start + 1)
                  (so-far-new marks tails base story done got s at had x rise m there number t some kind tail) (split front) labels rises,
            )
        by (Some n) e number labels =
            let move = had.moves t n e in
            let behind = is-old is (new (Some n) e) in (
              record {
                place = move.place;
                number = number ∙ move.number;
                first = move.first;
                listed = ap (λ l. slice_get l move.place) behind ∙ at-left got (firsts (with_m done) ms) move.place move.first move.listed;
                kind = move.kind ∙ sym kind;
                tail = move.tail ∙ sym tail;
                earlier = λ lower within. later-position story base lower at x.own.start rise (had.earlier lower (omega (arith, within, slice_get_within got move.place move.first move.listed)));
              },
              rest s (with_m done) got (x.own.start + 1) (so-far-again marks tails base story done got s at had x rise m t n some e) behind labels rises,
            )

  pub walk : (s : Numbering) (done got : List Mention) (at : ℕ) (xs : List Seen) → SoFar done got s at → all ≡ got ++ firsts done (mentions_of xs)
      → HaveLabels (pairs marks) s xs → Rise at xs → ((i : ℕ) (x : Seen) → slice_get xs i ≡ Some x → IsPlaced story x) → AreNumbered xs × AreAll
  walk s done got at [] had is labels rise there = (none, all-there)
    where
      none : AreNumbered []
      none i x e = absurd (cc)

      all-there : AreAll
      all-there place within = let e = had.earlier place (omega (arith, within, ap length (is ∙ append-nil got))) in (e.element, e.among, e.number)
  walk s done got at (x ∷ xs) had is labels rise there =
      let both = by (mention_of x) refl is (λ s d g a h i l r. walk s d g a xs h i l r (λ i x e. there (suc i) x e)) in
      with-first x xs both.0 both.1
    where
      revision : (o : Option Mention) → mention_of x ≡ o → revision_of attribute_value (pairs marks) x ≡ in_mention o
      revision o e =
          sym (mention-in marks tails x.own.tag.tail (whole_role attribute_value (pairs marks) x) (move_of attribute_value (pairs marks) x)) ∙ ap in_mention e

      number : (o : Option Mention) → mention_of x ≡ o → x.own.tag.rev ≡ number_for (in_mention o) s
      number o e = labels.0.number ∙ ap (λ i. number_for i s) (revision o e)

      later : (o : Option Mention) → mention_of x ≡ o → HaveLabels (pairs marks) (counted (in_mention o) s) xs
      later o e = let P : Membership → Type 0 = λ i. HaveLabels (pairs marks) (counted i s) xs in subst P (revision o e) labels.1

      Both : Option Mention → Type 0
      Both o = IsNumbered base all story x o × (AreNumbered xs × AreAll)

      of_move : (m : Mention) → mention_of x ≡ Some m → all ≡ got ++ firsts done (m ∷ mentions_of xs) → Rest xs → (p : Option Pair)
          → Mentions marks tails x.own.tag.tail (whole_role attribute_value (pairs marks) x) p m → Both (Some m)
      of_move m e is rest None h =
          own s done got at had x xs rise.0 rise.1 (there 0 x refl) m rest is h.0 (number (Some m) e) (later (Some m) e)
      of_move m e is rest (Some pair) h =
          moved s done got at had x xs rise.0 rise.1 (there 0 x refl) m rest is pair.source.start.at h.0 h.1 h.2 (number (Some m) e) (later (Some m) e)

      by : (o : Option Mention) → mention_of x ≡ o → all ≡ got ++ firsts done (cons_option o (mentions_of xs)) → Rest xs → Both o
      by None e is rest =
          (number None e, rest s done got (x.own.start + 1) (so-far-none marks tails base story done got s at had x rise.0) is (later None e) rise.1)
      by (Some m) e is rest =
          let P : Option Mention → Type 0 =
          λ o. IsMentioned marks tails x.own.tag.tail (whole_role attribute_value (pairs marks) x) (move_of attribute_value (pairs marks) x) o in
          let told = subst P e (mention-is marks tails x.own.tag.tail (whole_role attribute_value (pairs marks) x) (move_of attribute_value (pairs marks) x)) in
          of_move m e is rest (move_of attribute_value (pairs marks) x) told.0
