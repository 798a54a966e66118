-- Laws of revisions: the walk over a story finds those of the definition.
use Rattle.std.proofs.Common.{◌≡◌, ◌∙◌, refl, ap, sym, subst, ℕ, suc, ◌+◌, ◌-◌, ◌^◌, ◌<◌, ◌≤◌, ◌==◌, ◌&&◌, ◌||◌, not, nat_lt, List, [], ◌∷◌, ◌++◌, Bool, true, false, true≢false, drop, filter, filter_map, map, length, slice_get, Option, Some, None, is_some, option_map, option_to_list, append_assoc, length-append, arith, if◌then◌else◌}
use Rattle.std.specs.List.{cons_option, list_any}
use Rattle.std.proofs.lemmas.List.{append-nil}
use Rattle.std.proofs.Math.Bool.{or-false, or-true}
use Rattle.std.proofs.lemmas.Bool.{not-true, and_right, eq-eqb, eqb-true}
use Rattle.redl_tree.specs.Model.Nodes.{Tag, Nodes}
use Rattle.redl_tree.specs.Model.Count.{count}
use Rattle.redl_tree.specs.Revisions.Markers.{whole_role, move_of}
use Rattle.redl_tree.specs.Revisions.Moves.{Marking, Pair, pairs}
use Rattle.redl_tree.specs.Revisions.Numbers.{Membership, in_none, in_own, in_move, membership, Numbering, number_of_move, counted, counted_move, start_with, next_after_story, number_rule}
use Rattle.redl_tree.specs.Decisions.Packages.{left_after, stories}
use Rattle.redl_tree.specs.Model.Seen.{Seen, seen, root_spots}
use Rattle.redl_tree.specs.declared.kinds.Kind.{Kind}
use Rattle.redl_tree.specs.declared.kinds.Kind.TheVariants.{Content, Mark, Row, Cell, Change, Plain, Marker}
use Rattle.redl_stamp.specs.Attribute.{attribute_value}
use Rattle.redl_moves.specs.Starts.{start_in}
use Rattle.redl_index.specs.Markers.Found.{markers_of, marker_tails}
use Rattle.redl_index.specs.Inside.Markers.Free.{Every}
use Rattle.redl_index.proofs.MarkerLaws.Counts.{seen-count}
use Rattle.redl_opc.specs.Elements.{Element}
use Rattle.redl_opc.specs.Parts.{story}
use Rattle.redl_opc.specs.Shape.{parts_of, story_of, refusal}
use Rattle.redl_opc.proofs.StoryLaws.{stories-parts}
use Rattle.redl_opc.proofs.WalkLaws.{part-at}
use Rattle.redl_index.specs.Numbers.{package_revisions}
use Rattle.redl_index.proofs.LabelLaws.{counted_all, numbering-fold}
use Rattle.redl_index.specs.declared.revision.Revision.{Revision}
use Rattle.redl_index.specs.Mentions.{Mention, mention_by, mentions, Sight, sight_in}
use Rattle.redl_index.specs.Revisions.{starts_at, is_of, is_new, firsts, members_of, revision_with, revision_of, numbered, story_revisions, revisions_in, revisions_from, revisions_of}
use Rattle.redl_index.specs.Inside.Tallies.{Tally, next_number, move_number, known_number, with_move, with_one_more, replaced, mentioned_again, mentioned, mentioned_by, noted_by, noted_all}
use Rattle.redl_index.proofs.TallyLaws.{move_number-insert}

-- ---- equal starts

other : (a b : ℕ) → (a == b) ≡ false → (b == a) ≡ false
other a b e = grind arith

-- ---- mentions of a move

any-append : (s : ℕ) (xs ys : List Mention) → list_any (is_of s) (xs ++ ys) ≡ (list_any (is_of s) xs || list_any (is_of s) ys)
any-append s [] ys = refl
any-append s (x ∷ xs) ys = by (is_of s x) (any-append s xs ys)
  where
    by : (b : Bool) → list_any (is_of s) (xs ++ ys) ≡ (list_any (is_of s) xs || list_any (is_of s) ys) →
        (b || list_any (is_of s) (xs ++ ys)) ≡ ((b || list_any (is_of s) xs) || list_any (is_of s) ys)
    by true ih = refl
    by false ih = ih

any-more : (s : ℕ) (xs : List Mention) (m : Mention) → list_any (is_of s) (xs ++ m ∷ []) ≡ (list_any (is_of s) xs || is_of s m)
any-more s xs m = any-append s xs (m ∷ []) ∙ ap (λ b. list_any (is_of s) xs || b) (or-false (is_of s m))

abbrev pub first-of : Bool → Mention → List Mention
first-of b m = if b then m ∷ [] else []

firsts-append : (before xs : List Mention) (m : Mention) →
    firsts before (xs ++ m ∷ []) ≡ firsts before xs ++ first-of (is_new (before ++ xs) m.move) m
firsts-append before [] m = by (is_new before m.move) ∙ ap (λ b. first-of (is_new b m.move) m) (sym (append-nil before))
  where
    by : (b : Bool) → (if b then m ∷ [] else []) ≡ first-of b m
    by b = refl
firsts-append before (x ∷ xs) m =
    by (is_new before x.move) (firsts-append (before ++ x ∷ []) xs m ∙ ap (λ b. firsts (before ++ x ∷ []) xs ++ first-of (is_new b m.move) m) (append_assoc before (x ∷ []) xs))
  where
    by : (b : Bool) → firsts (before ++ x ∷ []) (xs ++ m ∷ []) ≡ firsts (before ++ x ∷ []) xs ++ first-of (is_new (before ++ x ∷ xs) m.move) m →
        (if b then x ∷ firsts (before ++ x ∷ []) (xs ++ m ∷ []) else firsts (before ++ x ∷ []) (xs ++ m ∷ []))
        ≡ (if b then x ∷ firsts (before ++ x ∷ []) xs else firsts (before ++ x ∷ []) xs) ++ first-of (is_new (before ++ x ∷ xs) m.move) m
    by true ih = ap (λ ms. x ∷ ms) ih
    by false ih = ih

-- the place of the first mention of a move
abbrev pub place_of : ℕ → List Mention → Option ℕ
place_of s [] = None
place_of s (m ∷ ms) = if is_of s m then Some 0 else option_map suc (place_of s ms)

is_some-suc : (o : Option ℕ) → is_some (option_map suc o) ≡ is_some o
is_some-suc None = refl
is_some-suc (Some n) = refl

is-new : (s : ℕ) (before : List Mention) (o : Option ℕ) → starts_at s o ≡ true → list_any (is_of s) before ≡ false → is_new before o ≡ true
is-new s before None e none = absurd (true≢false (sym e))
is-new s before (Some t) e none = ap not (ap (λ k. list_any (is_of k) before) (eqb-true t s e) ∙ none)

is-old : (s : ℕ) (before : List Mention) (o : Option ℕ) → starts_at s o ≡ true → list_any (is_of s) before ≡ true → is_new before o ≡ false
is-old s before None e some = absurd (true≢false (sym e))
is-old s before (Some t) e some = ap not (ap (λ k. list_any (is_of k) before) (eqb-true t s e) ∙ some)

module _ (s : ℕ) where
  -- among the first mentions there is one of the move exactly where there is one at all
  place-firsts : (before xs : List Mention) → list_any (is_of s) before ≡ false → is_some (place_of s (firsts before xs)) ≡ list_any (is_of s) xs
  place-firsts before [] none = refl
  place-firsts before (x ∷ xs) none =
      by (is_of s x) (is_new before x.move) refl refl (λ is. place-firsts (before ++ x ∷ []) xs (any-more s before x ∙ ap (λ b. b || is_of s x) none ∙ is))
    where
      by : (b n : Bool) → is_of s x ≡ b → is_new before x.move ≡ n → (is_of s x ≡ false → is_some (place_of s (firsts (before ++ x ∷ []) xs)) ≡ list_any (is_of s) xs) →
          is_some (place_of s (if n then x ∷ firsts (before ++ x ∷ []) xs else firsts (before ++ x ∷ []) xs)) ≡ (b || list_any (is_of s) xs)
      by true true is new ih = ap (λ b. is_some (if b then Some 0 else option_map suc (place_of s (firsts (before ++ x ∷ []) xs)))) is
      by true false is new ih = absurd (true≢false (sym (is-new s before x.move is none) ∙ new))
      by false true is new ih =
          ap (λ b. is_some (if b then Some 0 else option_map suc (place_of s (firsts (before ++ x ∷ []) xs)))) is
          ∙ is_some-suc (place_of s (firsts (before ++ x ∷ []) xs)) ∙ ih is
      by false false is new ih = ih is

  abbrev pub None_of : List Mention → Type 0
  None_of ms = Every (λ (m : Mention). is_of s m ≡ false) ms

  -- after a mention of the move no other one is a first one
  none-firsts : (before xs : List Mention) → list_any (is_of s) before ≡ true → None_of (firsts before xs)
  none-firsts before [] some = tt
  none-firsts before (x ∷ xs) some = by (is_of s x) (is_new before x.move) refl refl (none-firsts (before ++ x ∷ []) xs (any-more s before x ∙ ap (λ b. b || is_of s x) some))
    where
      by : (b n : Bool) → is_of s x ≡ b → is_new before x.move ≡ n → None_of (firsts (before ++ x ∷ []) xs) →
          None_of (if n then x ∷ firsts (before ++ x ∷ []) xs else firsts (before ++ x ∷ []) xs)
      by true true is new ih = absurd (true≢false (sym new ∙ is-old s before x.move is some))
      by false true is new ih = (is, ih)
      by b false is new ih = ih

  -- after the first one of the move there is no other
  abbrev pub Once : List Mention → Type 0
  Once [] = Unit {0}
  Once (m ∷ ms) = (is_of s m ≡ true → None_of ms) × (is_of s m ≡ false → Once ms)

  none-once : (ms : List Mention) → None_of ms → Once ms
  none-once [] none = tt
  none-once (m ∷ ms) none = ((λ e. none.1), (λ e. none-once ms none.1))

  once-firsts : (before xs : List Mention) → list_any (is_of s) before ≡ false → Once (firsts before xs)
  once-firsts before [] none = tt
  once-firsts before (x ∷ xs) none =
      by (is_of s x) (is_new before x.move) refl refl (λ is. once-firsts (before ++ x ∷ []) xs (any-more s before x ∙ ap (λ b. b || is_of s x) none ∙ is))
      (λ is. none-firsts (before ++ x ∷ []) xs (any-more s before x ∙ ap (λ b. b || is_of s x) none ∙ is))
    where
      by : (b n : Bool) → is_of s x ≡ b → is_new before x.move ≡ n → (is_of s x ≡ false → Once (firsts (before ++ x ∷ []) xs)) →
          (is_of s x ≡ true → None_of (firsts (before ++ x ∷ []) xs)) → Once (if n then x ∷ firsts (before ++ x ∷ []) xs else firsts (before ++ x ∷ []) xs)
      by true true is new ih none_later = ((λ e. none_later is), (λ e. absurd (true≢false (sym is ∙ e))))
      by false true is new ih none_later = ((λ e. absurd (true≢false (sym e ∙ is))), (λ e. ih is))
      by true false is new ih none_later = absurd (true≢false (sym (is-new s before x.move is none) ∙ new))
      by false false is new ih none_later = ih is

  no-suc : (o : Option ℕ) → option_map suc o ≡ None → o ≡ None
  no-suc None e = refl
  no-suc (Some n) e = absurd (cc)

  no-place : (ms : List Mention) → place_of s ms ≡ None → None_of ms
  no-place [] e = tt
  no-place (m ∷ ms) e = by (is_of s m) refl e (no-place ms)
    where
      by : (b : Bool) → is_of s m ≡ b → (if b then Some 0 else option_map suc (place_of s ms)) ≡ None → (place_of s ms ≡ None → None_of ms) → None_of (m ∷ ms)
      by true is e ih = absurd (cc)
      by false is e ih = (is, ih (no-suc (place_of s ms) e))

  place-more : (ms : List Mention) (m : Mention) → is_of s m ≡ false → place_of s (ms ++ m ∷ []) ≡ place_of s ms
  place-more [] m is = ap (λ b. if b then Some 0 else None) is
  place-more (x ∷ ms) m is = ap (λ o. if is_of s x then Some 0 else option_map suc o) (place-more ms m is)

  place-new : (ms : List Mention) (m : Mention) → None_of ms → is_of s m ≡ true → place_of s (ms ++ m ∷ []) ≡ Some (length ms)
  place-new [] m none is = ap (λ b. if b then Some 0 else None) is
  place-new (x ∷ ms) m none is =
      ap (λ b. if b then Some 0 else option_map suc (place_of s (ms ++ m ∷ []))) none.0 ∙ ap (option_map suc) (place-new ms m none.1 is)

-- ---- members

abbrev pub one_if : Bool → ℕ
one_if b = if b then 1 else 0

length-filter-more : (p : Mention → Bool) (xs : List Mention) (m : Mention) → length (filter p (xs ++ m ∷ [])) ≡ length (filter p xs) + one_if (p m)
length-filter-more p [] m = by (p m)
  where
    by : (b : Bool) → length (if b then m ∷ [] else []) ≡ 0 + one_if b
    by true = refl
    by false = refl
length-filter-more p (x ∷ xs) m = by (p x) (length-filter-more p xs m)
  where
    by : (b : Bool) → length (filter p (xs ++ m ∷ [])) ≡ length (filter p xs) + one_if (p m) →
        length (if b then x ∷ filter p (xs ++ m ∷ []) else filter p (xs ++ m ∷ [])) ≡ length (if b then x ∷ filter p xs else filter p xs) + one_if (p m)
    by true ih = omega (arith, ih)
    by false ih = ih

length-filter-all : (p : Mention → Bool) (xs : List Mention) → length (filter p xs) ≤ length xs
length-filter-all p [] = omega arith
length-filter-all p (x ∷ xs) = by (p x) (length-filter-all p xs)
  where
    by : (b : Bool) → length (filter p xs) ≤ length xs → length (if b then x ∷ filter p xs else filter p xs) ≤ suc (length xs)
    by true ih = omega (arith, ih)
    by false ih = omega (arith, ih)

abbrev pub joins : Mention → Option ℕ → Bool
joins m None = false
joins m (Some s) = m.counts && is_of s m

-- a mention more
members-more : (done : List Mention) (m : Mention) (o : Option ℕ) → members_of (done ++ m ∷ []) o ≡ members_of done o + one_if (joins m o)
members-more done m None = refl
members-more done m (Some s) = length-filter-more (λ x. x.counts && is_of s x) done m

no-members : (s : ℕ) (done : List Mention) → list_any (is_of s) done ≡ false → members_of done (Some s) ≡ 0
no-members s [] none = refl
no-members s (x ∷ done) none = by (is_of s x) x.counts none (no-members s done)
  where
    by : (b c : Bool) → (b || list_any (is_of s) done) ≡ false → (list_any (is_of s) done ≡ false → members_of done (Some s) ≡ 0) →
        length (if c && b then x ∷ filter (λ y. y.counts && is_of s y) done else filter (λ y. y.counts && is_of s y) done) ≡ 0
    by true c none ih = absurd (true≢false none)
    by false true none ih = ih none
    by false false none ih = ih none

-- the first mention of a move is of that mention alone
members-first : (done : List Mention) (m : Mention) → is_new done m.move ≡ true → members_of (done ++ m ∷ []) m.move ≡ members_of (m ∷ []) m.move
members-first done m new = by m.move new
  where
    by : (o : Option ℕ) → is_new done o ≡ true → members_of (done ++ m ∷ []) o ≡ members_of (m ∷ []) o
    by None new = refl
    by (Some s) new =
        members-more done m (Some s) ∙ ap (λ n. n + one_if (joins m (Some s))) (no-members s done (not-true (list_any (is_of s) done) new))
        ∙ sym (length-filter-more (λ x. x.counts && is_of s x) [] m)

-- ---- numbers

-- numbering revisions leaves none out and adds none
pub length-numbered : (n : ℕ) (rs : List (ℕ → Revision)) → length (numbered n rs) ≡ length rs
length-numbered n [] = refl
length-numbered n (r ∷ rs) = ap suc (length-numbered (n + 1) rs)

-- two lists of revisions are numbered one after the other
pub numbered-append : (n : ℕ) (xs ys : List (ℕ → Revision)) → numbered n (xs ++ ys) ≡ numbered n xs ++ numbered (n + length xs) ys
numbered-append n [] ys = let is : n ≡ n + 0 = omega arith in ap (λ k. numbered k ys) is
numbered-append n (x ∷ xs) ys =
    let is : (n + 1) + length xs ≡ n + suc (length xs) = omega arith in
    ap (λ rs. x n ∷ rs) (numbered-append (n + 1) xs ys ∙ ap (λ k. numbered (n + 1) xs ++ numbered k ys) is)

length-map : (f : Mention → ℕ → Revision) (ms : List Mention) → length (map f ms) ≡ length ms
length-map f [] = refl
length-map f (m ∷ ms) = ap suc (length-map f ms)

map-more : (f : Mention → ℕ → Revision) (ms : List Mention) (m : Mention) → map f (ms ++ m ∷ []) ≡ map f ms ++ f m ∷ []
map-more f [] m = refl
map-more f (x ∷ ms) m = ap (λ rs. f x ∷ rs) (map-more f ms m)

-- ---- the walk over the mentions of a story

replaced-suc : (r : Revision) (rs : List Revision) (p : ℕ) (o : Option Revision) → replaced (r ∷ rs) (suc p) o ≡ r ∷ replaced rs p o
replaced-suc r rs p None = refl
replaced-suc r rs p (Some x) = refl

replaced-behind : (base rs : List Revision) (p : ℕ) →
    replaced (base ++ rs) (length base + p) (slice_get (base ++ rs) (length base + p)) ≡ base ++ replaced rs p (slice_get rs p)
replaced-behind [] rs p = let is : 0 + p ≡ p = omega arith in ap (λ n. replaced rs n (slice_get rs n)) is
replaced-behind (b ∷ base) rs p =
    let is : suc (length base) + p ≡ suc (length base + p) = omega arith in
    ap (λ n. replaced (b ∷ (base ++ rs)) n (slice_get (b ∷ (base ++ rs)) n)) is
    ∙ replaced-suc b (base ++ rs) (length base + p) (slice_get (base ++ rs) (length base + p))
    ∙ ap (λ xs. b ∷ xs) (replaced-behind base rs p)

-- how many members are counted doesn't matter to the others
module _ (part : ℕ) (done : List Mention) (m : Mention) where
  before-after : (f : Mention) → joins m f.move ≡ false → revision_of part (done ++ m ∷ []) f ≡ revision_of part done f
  before-after f apart =
      ap (λ n. revision_with part f.kind f.tail n)
      (members-more done m f.move ∙ ap (λ b. members_of done f.move + one_if b) apart ∙ plus-none (members_of done f.move))
    where
      plus-none : (n : ℕ) → n + 0 ≡ n
      plus-none n = omega arith

  others-stay : (ms : List Mention) → Every (λ (f : Mention). joins m f.move ≡ false) ms → map (revision_of part (done ++ m ∷ [])) ms ≡ map (revision_of part done) ms
  others-stay [] apart = refl
  others-stay (f ∷ ms) apart =
      ap (λ r. r ∷ map (revision_of part (done ++ m ∷ [])) ms) (before-after f apart.0) ∙ ap (λ rs. revision_of part done f ∷ rs) (others-stay ms apart.1)

  -- a new move is a different one from each of the others
  apart-new : (s : ℕ) → m.move ≡ Some s → (f : Mention) → is_of s f ≡ false → joins m f.move ≡ false
  apart-new s is f e = by f.move e
    where
      by : (o : Option ℕ) → starts_at s o ≡ false → joins m o ≡ false
      by None e = refl
      by (Some t) e = and_right m.counts (starts_at t m.move) (ap (starts_at t) is ∙ other t s e)

  all-apart : (s : ℕ) → m.move ≡ Some s → (ms : List Mention) → None_of s ms → Every (λ (f : Mention). joins m f.move ≡ false) ms
  all-apart s is [] none = tt
  all-apart s is (f ∷ ms) none = (apart-new s is f none.0, all-apart s is ms none.1)

  own-apart : m.move ≡ None → (ms : List Mention) → Every (λ (f : Mention). joins m f.move ≡ false) ms
  own-apart is [] = tt
  own-apart is (f ∷ ms) = (by f.move, own-apart is ms)
    where
      by : (o : Option ℕ) → joins m o ≡ false
      by None = refl
      by (Some t) = and_right m.counts (starts_at t m.move) (ap (starts_at t) is)

  uncounted-apart : m.counts ≡ false → (ms : List Mention) → Every (λ (f : Mention). joins m f.move ≡ false) ms
  uncounted-apart is [] = tt
  uncounted-apart is (f ∷ ms) = (by f.move, uncounted-apart is ms)
    where
      by : (o : Option ℕ) → joins m o ≡ false
      by None = refl
      by (Some t) = ap (λ c. c && is_of t m) is

  -- a revision that is mentioned for the first time
  new-revision : is_new done m.move ≡ true → revision_of part (done ++ m ∷ []) m ≡ revision_of part (m ∷ []) m
  new-revision new = ap (λ n. revision_with part m.kind m.tail n) (members-first done m new)

  first-step : (k : ℕ) (ms : List Mention) → is_new done m.move ≡ true → Every (λ (f : Mention). joins m f.move ≡ false) ms →
      numbered k (map (revision_of part (done ++ m ∷ [])) (ms ++ m ∷ []))
      ≡ numbered k (map (revision_of part done) ms) ++ revision_of part (m ∷ []) m (k + length ms) ∷ []
  first-step k ms new apart =
      ap (numbered k) (map-more (revision_of part (done ++ m ∷ [])) ms m)
      ∙ numbered-append k (map (revision_of part (done ++ m ∷ [])) ms) (revision_of part (done ++ m ∷ []) m ∷ [])
      ∙ ap (λ rs. numbered k rs ++ revision_of part (done ++ m ∷ []) m (k + length rs) ∷ []) (others-stay ms apart)
      ∙ ap (λ r. numbered k (map (revision_of part done) ms) ++ r (k + length (map (revision_of part done) ms)) ∷ []) (new-revision new)
      ∙ ap (λ n. numbered k (map (revision_of part done) ms) ++ revision_of part (m ∷ []) m (k + n) ∷ []) (length-map (revision_of part done) ms)

  -- ---- a further mention

  counted-member : (f : Mention) (n : ℕ) → joins m f.move ≡ true → length done + 1 < 2 ^ 32 → members_of done f.move ≤ length done →
      revision_of part (done ++ m ∷ []) f n ≡ with_one_more (revision_of part done f n)
  counted-member f n joined few bound =
      ap (λ k. revision_with part f.kind f.tail k n) (members-more done m f.move ∙ ap (λ b. members_of done f.move + one_if b) joined ∙ more (members_of done f.move) bound)
    where
      more : (k : ℕ) → k ≤ length done → k + 1 ≡ (if nat_lt k (2 ^ 32 - 1) then k + 1 else k)
      more k h = ap (λ b. if b then k + 1 else k) (sym (below k h))
        where
          below : (k : ℕ) → k ≤ length done → nat_lt k (2 ^ 32 - 1) ≡ true
          below k h = grind (arith, h, few)

  member-bound : (o : Option ℕ) → joins m o ≡ true → members_of done o ≤ length done
  member-bound None e = absurd (true≢false (sym e))
  member-bound (Some t) e = length-filter-all (λ x. x.counts && is_of t x) done

  joined : (s : ℕ) → m.move ≡ Some s → m.counts ≡ true → (f : Mention) → is_of s f ≡ true → joins m f.move ≡ true
  joined s is counts f e = by f.move e
    where
      by : (o : Option ℕ) → starts_at s o ≡ true → joins m o ≡ true
      by None e = absurd (true≢false (sym e))
      by (Some t) e = ap (λ c. c && is_of t m) counts ∙ ap (starts_at t) is ∙ ap (λ k. k == t) (sym (eqb-true t s e)) ∙ eq-eqb t t refl

  abbrev later : ℕ → List Mention → List Revision
  later k ms = numbered (k + 1) (map (revision_of part done) ms)

  abbrev Raised : Mention → ℕ → List Mention → ℕ → Type 0
  Raised f k ms n =
      replaced (revision_of part done f k ∷ later k ms) n (slice_get (revision_of part done f k ∷ later k ms) n)
      ≡ revision_of part (done ++ m ∷ []) f k ∷ numbered (k + 1) (map (revision_of part (done ++ m ∷ [])) ms)

  abbrev Hyp : ℕ → ℕ → List Mention → Type 0
  Hyp s k ms = (q : ℕ) → Once s ms → place_of s ms ≡ Some q
      → replaced (later k ms) q (slice_get (later k ms) q) ≡ numbered (k + 1) (map (revision_of part (done ++ m ∷ [])) ms)

  raised : (s : ℕ) → m.move ≡ Some s → m.counts ≡ true → length done + 1 < 2 ^ 32 → (k : ℕ) (ms : List Mention) (p : ℕ) → Once s ms → place_of s ms ≡ Some p →
      replaced (numbered k (map (revision_of part done) ms)) p (slice_get (numbered k (map (revision_of part done) ms)) p)
      ≡ numbered k (map (revision_of part (done ++ m ∷ [])) ms)
  raised s is counts few k [] p once e = absurd (cc)
  raised s is counts few k (f ∷ ms) p once e = by (is_of s f) refl e (raised s is counts few (k + 1) ms)
    where
      behind : (o : Option ℕ) → place_of s ms ≡ o → is_of s f ≡ false → option_map suc o ≡ Some p → Hyp s k ms → Raised f k ms p
      behind None is_p is_s e ih = absurd (cc)
      behind (Some q) is_p is_s e ih =
          let at : suc q ≡ p = cc in
          subst (Raised f k ms) at
          (replaced-suc (revision_of part done f k) (later k ms) q (slice_get (later k ms) q)
          ∙ ap (λ rs. revision_of part done f k ∷ rs) (ih q (once.1 is_s) is_p)
          ∙ ap (λ (r : ℕ → Revision). r k ∷ numbered (k + 1) (map (revision_of part (done ++ m ∷ [])) ms)) (sym (before-after f (apart-new s is f is_s))))

      by : (b : Bool) → is_of s f ≡ b → (if b then Some 0 else option_map suc (place_of s ms)) ≡ Some p → Hyp s k ms → Raised f k ms p
      by true is_s e ih =
          let at : 0 ≡ p = cc in
          let here = joined s is counts f is_s in
          subst (Raised f k ms) at
          (ap (λ r. r ∷ later k ms) (sym (counted-member f k here few (member-bound f.move here)))
          ∙ ap (λ rs. revision_of part (done ++ m ∷ []) f k ∷ numbered (k + 1) rs) (sym (others-stay ms (all-apart s is ms (once.0 is_s)))))
      by false is_s e ih = behind (place_of s ms) refl is_s e ih

-- ---- what has been found after these mentions, where these revisions were there before the story

pub record IsSoFar (part : ℕ) (base : List Revision) (done : List Mention) (t : Tally) : Type 0 where
  pub index : t.index ≡ base ++ numbered (1 + length base) (map (revision_of part done) (firsts [] done))
  pub moves : (s : ℕ) → move_number t.moves s ≡ option_map (λ p. (1 + length base) + p) (place_of s (firsts [] done))

module _ (part : ℕ) (base : List Revision) (done : List Mention) (t : Tally) (m : Mention) (had : IsSoFar part base done t) (few : length done + 1 < 2 ^ 32) where
  abbrev number : ℕ
  number = 1 + length base

  abbrev fs : List Mention
  fs = firsts [] done

  next-is : next_number t ≡ number + length fs
  next-is =
      let revs = map (revision_of part done) fs in
      omega (arith, ap length had.index, length-append base (numbered number revs), length-numbered number revs, length-map (revision_of part done) fs)

  -- the first mention of a revision
  new-index : is_new done m.move ≡ true → Every (λ (f : Mention). joins m f.move ≡ false) fs →
      t.index ++ revision_of part (m ∷ []) m (next_number t) ∷ [] ≡ base ++ numbered number (map (revision_of part (done ++ m ∷ [])) (firsts [] (done ++ m ∷ [])))
  new-index new apart =
      ap (λ n. t.index ++ revision_of part (m ∷ []) m n ∷ []) next-is
      ∙ ap (λ (rs : List Revision). rs ++ revision_of part (m ∷ []) m (number + length fs) ∷ []) had.index
      ∙ append_assoc base (numbered number (map (revision_of part done) fs)) (revision_of part (m ∷ []) m (number + length fs) ∷ [])
      ∙ ap (λ rs. base ++ rs) (sym (first-step part done m number fs new apart))
      ∙ ap (λ b. base ++ numbered number (map (revision_of part (done ++ m ∷ [])) (fs ++ first-of b m))) (sym new)
      ∙ ap (λ ms. base ++ numbered number (map (revision_of part (done ++ m ∷ [])) ms)) (sym (firsts-append [] done m))

  firsts-new : is_new done m.move ≡ true → firsts [] (done ++ m ∷ []) ≡ fs ++ m ∷ []
  firsts-new new = firsts-append [] done m ∙ ap (λ b. fs ++ first-of b m) new

  firsts-old : is_new done m.move ≡ false → firsts [] (done ++ m ∷ []) ≡ fs
  firsts-old new = firsts-append [] done m ∙ ap (λ b. fs ++ first-of b m) new ∙ append-nil fs

  so-far-own : m.move ≡ None → IsSoFar part base (done ++ m ∷ []) (mentioned part t m None)
  so-far-own is =
      let new : is_new done m.move ≡ true = ap (is_new done) is in
      record {
        index = new-index new (own-apart part done m is fs);
        moves = λ s.
            ap (λ o. move_number (with_move o (next_number t) t.moves) s) is ∙ had.moves s
            ∙ ap (option_map (λ p. number + p)) (sym (ap (place_of s) (firsts-new new) ∙ place-more s fs m (ap (starts_at s) is)));
      }

  any-done : (s : ℕ) → list_any (is_of s) done ≡ is_some (place_of s fs)
  any-done s = sym (place-firsts s [] done refl)

  so-far-new : (s : ℕ) → m.move ≡ Some s → place_of s fs ≡ None → IsSoFar part base (done ++ m ∷ []) (mentioned part t m None)
  so-far-new s is without =
      let new : is_new done m.move ≡ true = ap (is_new done) is ∙ ap not (any-done s ∙ ap is_some without) in
      let none = no-place s fs without in
      record {
        index = new-index new (all-apart part done m s is fs none);
        moves = λ x.
            ap (λ o. move_number (with_move o (next_number t) t.moves) x) is ∙ move_number-insert t.moves s (next_number t) x ∙ by x (s == x) refl none
            ∙ ap (λ ms. option_map (λ p. number + p) (place_of x ms)) (sym (firsts-new new));
      }
    where
      by : (x : ℕ) (b : Bool) → (s == x) ≡ b → None_of s fs →
          (if s == x then Some (next_number t) else move_number t.moves x) ≡ option_map (λ p. number + p) (place_of x (fs ++ m ∷ []))
      by x true e none =
          let at : s ≡ x = eqb-true s x e in
          ap (λ b. if b then Some (next_number t) else move_number t.moves x) e ∙ ap Some next-is
          ∙ ap (option_map (λ p. number + p)) (sym (ap (λ y. place_of y (fs ++ m ∷ [])) (sym at) ∙ place-new s fs m none (ap (starts_at s) is ∙ ap (λ y. s == y) at ∙ e)))
      by x false e none =
          ap (λ b. if b then Some (next_number t) else move_number t.moves x) e ∙ had.moves x
          ∙ ap (option_map (λ p. number + p)) (sym (place-more x fs m (ap (starts_at x) is ∙ e)))

  -- a further mention
  again-index : (s p : ℕ) → m.move ≡ Some s → place_of s fs ≡ Some p → (c : Bool) → m.counts ≡ c →
      mentioned_again c (number + p) t.index ≡ base ++ numbered number (map (revision_of part (done ++ m ∷ [])) fs)
  again-index s p is at false counts =
      had.index ∙ ap (λ rs. base ++ numbered number rs) (sym (others-stay part done m fs (uncounted-apart part done m counts fs)))
  again-index s p is at true counts =
      let revs = numbered number (map (revision_of part done) fs) in
      let positive : (number + p == 0) ≡ false = grind arith in
      let place : number + p - 1 ≡ length base + p = omega arith in
      ap (λ b. if not b then replaced t.index (number + p - 1) (slice_get t.index (number + p - 1)) else t.index) positive
      ∙ ap (λ n. replaced t.index n (slice_get t.index n)) place
      ∙ ap (λ (rs : List Revision). replaced rs (length base + p) (slice_get rs (length base + p))) had.index
      ∙ replaced-behind base revs p
      ∙ ap (λ rs. base ++ rs) (raised part done m s is counts few number fs p (once-firsts s [] done refl) at)

  so-far-again : (s p : ℕ) → m.move ≡ Some s → place_of s fs ≡ Some p → IsSoFar part base (done ++ m ∷ []) (mentioned part t m (Some (number + p)))
  so-far-again s p is at =
      let old : is_new done m.move ≡ false = ap (is_new done) is ∙ ap not (any-done s ∙ ap is_some at) in
      record {
        index = again-index s p is at m.counts refl ∙ ap (λ ms. base ++ numbered number (map (revision_of part (done ++ m ∷ [])) ms)) (sym (firsts-old old));
        moves = λ x. had.moves x ∙ ap (λ ms. option_map (λ p. number + p) (place_of x ms)) (sym (firsts-old old));
      }

  so-far-by : (o : Option ℕ) → m.move ≡ o → IsSoFar part base (done ++ m ∷ []) (mentioned part t m (known_number t.moves o))
  so-far-by None is = so-far-own is
  so-far-by (Some s) is = at (place_of s fs) refl
    where
      P : Option ℕ → Type 0
      P o = IsSoFar part base (done ++ m ∷ []) (mentioned part t m o)

      at : (o : Option ℕ) → place_of s fs ≡ o → IsSoFar part base (done ++ m ∷ []) (mentioned part t m (move_number t.moves s))
      at None without = subst P (sym (had.moves s ∙ ap (option_map (λ p. number + p)) without)) (so-far-new s is without)
      at (Some p) is_p = subst P (sym (had.moves s ∙ ap (option_map (λ p. number + p)) is_p)) (so-far-again s p is is_p)

  so-far-mentioned : IsSoFar part base (done ++ m ∷ []) (mentioned_by part t m)
  so-far-mentioned = so-far-by m.move refl

-- a story of which these elements are left
module _ (part : ℕ) (base : List Revision) where
  abbrev Rest : List Sight → Type 0
  Rest xs = (d : List Mention) (t : Tally) → IsSoFar part base d t → length d + length xs < 2 ^ 32 → IsSoFar part base (d ++ filter_map (λ y. y.mention) xs) (noted_all part t xs)

  so-far-all : (done : List Mention) (t : Tally) (xs : List Sight) → IsSoFar part base done t → length done + length xs < 2 ^ 32 →
      IsSoFar part base (done ++ filter_map (λ x. x.mention) xs) (noted_all part t xs)
  so-far-all done t [] had few = let P : List Mention → Type 0 = λ ms. IsSoFar part base ms t in subst P (sym (append-nil done)) had
  so-far-all done t (x ∷ xs) had few = by x.mention (λ d t h. so-far-all d t xs h)
    where
      by : (o : Option Mention) → Rest xs → IsSoFar part base (done ++ cons_option o (filter_map (λ y. y.mention) xs)) (noted_all part (noted_by part t o) xs)
      by None ih = ih done (noted_by part t None) (record { index = had.index; moves = had.moves }) (omega (arith, few))
      by (Some m) ih =
          let step = so-far-mentioned part base done t m had (omega (arith, few)) in
          let P : List Mention → Type 0 = λ ms. IsSoFar part base ms (noted_all part (noted_by part t (Some m)) xs) in
          subst P (append_assoc done (m ∷ []) (filter_map (λ y. y.mention) xs))
          (ih (done ++ m ∷ []) (noted_by part t (Some m)) (record { index = step.index; moves = step.moves }) (omega (arith, few, length-append done (m ∷ []))))

-- ---- how many revisions a story has

abbrev in_its : Option ℕ → Membership
in_its None = in_own
in_its (Some start) = in_move start

-- the revision that a mention is of
abbrev in_mention : Option Mention → Membership
in_mention None = in_none
in_mention (Some m) = in_its m.move

mention-in : (marks : List Marking) (tails : List (List ℕ)) (tail : List ℕ) (kind : Kind) (p : Option Pair) →
    in_mention (mention_by tails tail kind (option_map (start_in marks) p)) ≡ membership kind p
mention-in marks tails tail Plain p = refl
mention-in marks tails tail (Content x) None = refl
mention-in marks tails tail (Content x) (Some pair) = refl
mention-in marks tails tail (Mark x) None = refl
mention-in marks tails tail (Mark x) (Some pair) = refl
mention-in marks tails tail (Row x) None = refl
mention-in marks tails tail (Row x) (Some pair) = refl
mention-in marks tails tail (Cell x) None = refl
mention-in marks tails tail (Cell x) (Some pair) = refl
mention-in marks tails tail (Change x) None = refl
mention-in marks tails tail (Change x) (Some pair) = refl
mention-in marks tails tail Marker None = refl
mention-in marks tails tail Marker (Some pair) = refl

-- the moves that have a number are those that these mentions are of
abbrev IsKnown : Numbering → List Mention → Type 0
IsKnown s done = (k : ℕ) → is_some (number_of_move s.moves k) ≡ list_any (is_of k) done

-- one mention more
record IsOneMore (s after : Numbering) (done : List Mention) (m : Mention) : Type 0 where
  pub next : after.next ≡ s.next + length (first-of (is_new done m.move) m)
  pub known : IsKnown after (done ++ m ∷ [])

counted-own : (s : Numbering) (done : List Mention) (m : Mention) → IsKnown s done → m.move ≡ None → IsOneMore s (counted in_own s) done m
counted-own s done m known is = record {
  next = ap (λ o. s.next + length (first-of (is_new done o) m)) (sym is);
  known = λ k. known k ∙ sym (any-more k done m ∙ ap (λ o. list_any (is_of k) done || starts_at k o) is ∙ or-false (list_any (is_of k) done));
}

counted-again : (s : Numbering) (done : List Mention) (m : Mention) (t n : ℕ) → IsKnown s done → m.move ≡ Some t → number_of_move s.moves t ≡ Some n → IsOneMore s s done m
counted-again s done m t n known is had = record {
  next = plus-none s.next ∙ ap (λ b. s.next + length (first-of b m)) (sym (ap (is_new done) is ∙ ap not (sym (known t) ∙ ap is_some had)));
  known = λ k. known k ∙ sym (any-more k done m ∙ ap (λ o. list_any (is_of k) done || starts_at k o) is ∙ by k (t == k) refl);
}
  where
    plus-none : (n : ℕ) → n ≡ n + 0
    plus-none n = omega arith

    by : (k : ℕ) (b : Bool) → (t == k) ≡ b → (list_any (is_of k) done || t == k) ≡ list_any (is_of k) done
    by k true e = ap (λ b. list_any (is_of k) done || b) e ∙ or-true (list_any (is_of k) done)
        ∙ sym (ap (λ x. list_any (is_of x) done) (sym (eqb-true t k e)) ∙ sym (known t) ∙ ap is_some had)
    by k false e = ap (λ b. list_any (is_of k) done || b) e ∙ or-false (list_any (is_of k) done)

counted-new : (s : Numbering) (done : List Mention) (m : Mention) (t : ℕ) → IsKnown s done → m.move ≡ Some t → number_of_move s.moves t ≡ None →
    IsOneMore s (record { next = s.next + 1; moves = record { start = t; number = s.next } ∷ s.moves }) done m
counted-new s done m t known is had = record {
  next = ap (λ b. s.next + length (first-of b m)) (sym (ap (is_new done) is ∙ ap not (sym (known t) ∙ ap is_some had)));
  known = λ k. by k (t == k) ∙ sym (any-more k done m ∙ ap (λ o. list_any (is_of k) done || starts_at k o) is);
}
  where
    by : (k : ℕ) (b : Bool) → is_some (if b then Some s.next else number_of_move s.moves k) ≡ (list_any (is_of k) done || b)
    by k true = sym (or-true (list_any (is_of k) done))
    by k false = known k ∙ sym (or-false (list_any (is_of k) done))

counted-mention : (s : Numbering) (done : List Mention) (m : Mention) → IsKnown s done → IsOneMore s (counted (in_its m.move) s) done m
counted-mention s done m known = by m.move refl
  where
    by : (o : Option ℕ) → m.move ≡ o → IsOneMore s (counted (in_its o) s) done m
    by None is = counted-own s done m known is
    by (Some t) is = at (number_of_move s.moves t) refl
      where
        at : (o : Option ℕ) → number_of_move s.moves t ≡ o → IsOneMore s (counted_move t o s) done m
        at None had = counted-new s done m t known is had
        at (Some n) had = counted-again s done m t n known is had

module _ (marks : List Marking) (tails : List (List ℕ)) where
  abbrev mentions_in : List Seen → List Mention
  mentions_in xs = filter_map (λ sight. sight.mention) (map (sight_in marks tails) xs)

  abbrev Counted : List Seen → Type 0
  Counted xs = (s : Numbering) (d : List Mention) → IsKnown s d → (counted_all (pairs marks) s xs).next ≡ s.next + length (firsts d (mentions_in xs))

  counted-next : (s : Numbering) (done : List Mention) (xs : List Seen) → IsKnown s done →
      (counted_all (pairs marks) s xs).next ≡ s.next + length (firsts done (mentions_in xs))
  counted-next s done [] known = omega arith
  counted-next s done (x ∷ xs) known =
      ap (λ i. (counted_all (pairs marks) (counted i s) xs).next)
      (sym (mention-in marks tails x.own.tag.tail (whole_role attribute_value (pairs marks) x) (move_of attribute_value (pairs marks) x)))
      ∙ by (sight_in marks tails x).mention (λ s d. counted-next s d xs)
    where
      firsts-more : (b : Bool) (m : Mention) (ms : List Mention) → length (if b then m ∷ ms else ms) ≡ length (first-of b m) + length ms
      firsts-more true m ms = omega arith
      firsts-more false m ms = omega arith

      by : (o : Option Mention) → Counted xs → (counted_all (pairs marks) (counted (in_mention o) s) xs).next ≡ s.next + length (firsts done (cons_option o (mentions_in xs)))
      by None ih = ih s done known
      by (Some m) ih =
          let step = counted-mention s done m known in
          ih (counted (in_its m.move) s) (done ++ m ∷ []) step.known
          ∙ omega (arith, step.next, firsts-more (is_new done m.move) m (firsts (done ++ m ∷ []) (mentions_in xs)))

length-story : (part next : ℕ) (root : Tag) (kids : Nodes) → next + length (story_revisions part root kids) ≡ next_after_story attribute_value next root kids
length-story part next root kids =
    ap (λ n. next + n) (length-map (revision_of part (mentions root kids)) (firsts [] (mentions root kids)))
    ∙ sym (ap (λ (n : Numbering). n.next) (numbering-fold (pairs (markers_of root kids)) (root_spots root kids) 1 (start_with next) kids)
    ∙ counted-next (markers_of root kids) (marker_tails root kids) (start_with next) [] (seen root kids) (λ k. refl))

-- ---- how many a package has

-- the stories of parts
abbrev stories_in_parts : List Element → List Element
stories_in_parts parts = filter_map story_of parts

-- the next number behind a part
pub length-in : (k next : ℕ) (root : Option Element)
    → next + length (revisions_in k root) ≡ left_after (number_rule attribute_value) next (option_to_list root)
length-in k next None = omega arith
length-in k next (Some root) = length-story k next root.tag root.kids

length-from : (k next : ℕ) (parts : List Element) → next + length (revisions_from k parts) ≡ left_after (number_rule attribute_value) next (stories_in_parts parts)
length-from k next [] = omega arith
length-from k next (part ∷ rest) = by (story_of part) (length-in k next (story_of part)) (λ n. length-from (k + 1) n rest)
  where
    by : (root : Option Element) → next + length (revisions_in k root) ≡ left_after (number_rule attribute_value) next (option_to_list root)
        → ((n : ℕ) → n + length (revisions_from (k + 1) rest) ≡ left_after (number_rule attribute_value) n (stories_in_parts rest))
        → next + length (revisions_in k root ++ revisions_from (k + 1) rest)
        ≡ left_after (number_rule attribute_value) next (cons_option root (filter_map story_of rest))
    by None here more = more next
    by (Some root) here more =
        let inner = story_revisions k root.tag root.kids in
        let both : next + length (inner ++ revisions_from (k + 1) rest) ≡ (next + length inner) + length (revisions_from (k + 1) rest) =
        omega (arith, length-append inner (revisions_from (k + 1) rest)) in
        both ∙ ap (λ n. n + length (revisions_from (k + 1) rest)) here ∙ more (next_after_story attribute_value next root.tag root.kids)

-- the revisions of a package are as many as it says
pub length-revisions_of : (nodes : Nodes) → refusal nodes ≡ None → length (revisions_of nodes) ≡ package_revisions nodes
length-revisions_of nodes shape =
    length-numbered 1 (revisions_from 0 (parts_of nodes)) ∙ none-before (length (revisions_from 0 (parts_of nodes)))
    ∙ length-from 0 0 (parts_of nodes) ∙ ap (left_after (number_rule attribute_value) 0) (stories-parts nodes shape)
  where
    none-before : (n : ℕ) → n ≡ 0 + n
    none-before n = omega arith

-- numbers that count from 1 end behind the last revision
pub next-revisions : (nodes : Nodes) → refusal nodes ≡ None → left_after (number_rule attribute_value) 1 (stories nodes) ≡ 1 + package_revisions nodes
next-revisions nodes shape =
    let many = length (revisions_from 0 (parts_of nodes)) in
    let all : 0 + many ≡ package_revisions nodes = length-from 0 0 (parts_of nodes) ∙ ap (left_after (number_rule attribute_value) 0) (stories-parts nodes shape) in
    sym (length-from 0 1 (parts_of nodes) ∙ ap (left_after (number_rule attribute_value) 1) (stories-parts nodes shape)) ∙ omega (arith, all)

-- ---- a part at a time

module _ (nodes : Nodes) (number : ℕ) (within : number < length (parts_of nodes)) (old mid : List Revision)
    (is : mid ≡ old ++ numbered (1 + length old) (revisions_in number (story nodes number))) where
  length-mid : 1 + length mid ≡ (1 + length old) + length (revisions_in number (story nodes number))
  length-mid =
      let here = revisions_in number (story nodes number) in
      omega (arith, ap length is, length-append old (numbered (1 + length old) here), length-numbered (1 + length old) here)

  -- the revisions of a part stand in front of those of the parts behind it
  pub found-part : mid ++ numbered (1 + length mid) (revisions_from (number + 1) (drop (number + 1) (parts_of nodes)))
      ≡ old ++ numbered (1 + length old) (revisions_from number (drop number (parts_of nodes)))
  found-part =
      let found = part-at nodes number within in
      let here = revisions_in number (story nodes number) in
      let after = revisions_from (number + 1) (drop (number + 1) (parts_of nodes)) in
      let all : here ++ after ≡ revisions_from number (drop number (parts_of nodes)) =
      ap (λ root. revisions_in number root ++ after) found.1.root ∙ sym (ap (revisions_from number) found.1.front) in
      ap (λ n. mid ++ numbered n after) length-mid
      ∙ ap (λ (rs : List Revision). rs ++ numbered ((1 + length old) + length here) after) is
      ∙ append_assoc old (numbered (1 + length old) here) (numbered ((1 + length old) + length here) after)
      ∙ ap (λ rs. old ++ rs) (sym (numbered-append (1 + length old) here after) ∙ ap (numbered (1 + length old)) all)

-- ---- a story

module _ (part : ℕ) (base : List Revision) (root : Tag) (kids : Nodes) where
  abbrev pub story_tally : Tally
  story_tally =
      noted_all part (record { index = base; moves = [] }) (map (sight_in (markers_of root kids) (marker_tails root kids)) (seen root kids))

  pub story-index : count kids < 2 ^ 32 → story_tally.index ≡ base ++ numbered (1 + length base) (story_revisions part root kids)
  story-index few =
      let sights = map (sight_in (markers_of root kids) (marker_tails root kids)) (seen root kids) in
      let start : IsSoFar part base [] (record { index = base; moves = [] }) = record { index = sym (append-nil base); moves = λ s. refl } in
      (so-far-all part base [] (record { index = base; moves = [] }) sights start
      (omega (arith, few, map-length (sight_in (markers_of root kids) (marker_tails root kids)) (seen root kids), seen-count (root_spots root kids) 1 kids))).index
    where
      map-length : (f : Seen → Sight) (xs : List Seen) → length (map f xs) ≡ length xs
      map-length f [] = refl
      map-length f (x ∷ xs) = ap suc (map-length f xs)
