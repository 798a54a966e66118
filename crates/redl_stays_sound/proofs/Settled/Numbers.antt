-- The numbers on the members and markers of a numbered package are those of its revisions, so says for all of these decide all of them.
use Rattle.std.proofs.Common.{◌≡◌, ◌<◌, ◌≤◌, ◌+◌, ◌==◌, not, ◌⊎◌, inl, inr, ℕ, zero, suc, Bool, true, false, List, [], ◌∷◌, length, slice_get, Option, Some, None, is_some, unwrap_or, if◌then◌else◌, refl, sym, ap, ◌∙◌, true≢false, arith}
use Rattle.std.specs.List.{list_all}
use Rattle.std.proofs.lemmas.Bool.{and_from, and_parts, or_left, or_right}
use Rattle.redl_stays_sound.specs.Settled.{are_said, is_said}
use Rattle.redl_tree.specs.Decisions.Fates.{say_of}
use Rattle.redl_tree.specs.Decisions.Packages.{changed_stories, is_plain, left_after}
use Rattle.redl_tree.specs.Leaves.Settings.{is_keep}
use Rattle.redl_tree.specs.Model.Nodes.{Nodes, Tag, bytes, element, no_nodes}
use Rattle.redl_tree.specs.Model.Seen.{Spot, root_spots, seen, seen_one, spot, tags}
use Rattle.redl_tree.specs.Model.View.{Element}
use Rattle.redl_tree.specs.Revisions.Markers.{Value, move_of, moves_among, whole_role}
use Rattle.redl_tree.specs.Revisions.Moves.{Pair}
use Rattle.redl_tree.specs.Revisions.Numbers.{Membership, Numbering, counted, counted_move, in_move, in_none, in_own, labelled, labelled_story, membership, next_after_story, number_for, number_of_move, number_rule, numbering_after, revision_of, start_with}
use Rattle.redl_tree.specs.Rules.Tests.{everywhere}
use Rattle.redl_tree.specs.declared.kinds.Kind.{Kind}
use Rattle.redl_tree.specs.declared.kinds.Kind.TheVariants.{Cell, Change, Content, Mark, Marker, Plain, Row}
use Rattle.redl_tree.specs.declared.kinds.Say.{Say}
use Rattle.redl_tree.specs.declared.kinds.Say.TheVariants.{Keep}

-- ---- the numbers that are given

-- the element is in no revision, or has a number below this one
abbrev IsIn : ℕ → Tag → Type 0
IsIn n tag = (tag.kind ≡ Plain) ⊎ ((0 < tag.rev) × (tag.rev < n))

abbrev AllIn : ℕ → Nodes → Type 0
AllIn n no_nodes = Unit {0}
AllIn n (bytes b rest) = AllIn n rest
AllIn n (element tag kids rest) = IsIn n tag × AllIn n kids × AllIn n rest

in-more : (n m : ℕ) (tag : Tag) → n ≤ m → IsIn n tag → IsIn m tag
in-more n m tag le (inl plain) = inl plain
in-more n m tag le (inr (some, below)) = inr (some, omega (arith, le, below))

all-more : (n m : ℕ) (nodes : Nodes) → n ≤ m → AllIn n nodes → AllIn m nodes
all-more n m no_nodes le h = tt
all-more n m (bytes b rest) le h = all-more n m rest le h
all-more n m (element tag kids rest) le h = (in-more n m tag le h.0, all-more n m kids le h.1, all-more n m rest le h.2)

-- the numbers that moves have
abbrev MovesIn : Numbering → Type 0
MovesIn s = (start number : ℕ) → number_of_move s.moves start ≡ Some number → (0 < number) × (number < s.next)

-- after an element of this revision
record Counts (m : Membership) (s : Numbering) : Type 0 where
  grows : s.next ≤ (counted m s).next
  moves : MovesIn (counted m s)
  given : (m ≡ in_none) ⊎ ((0 < number_for m s) × (number_for m s < (counted m s).next))

counts : (m : Membership) (s : Numbering) → 0 < s.next → MovesIn s → Counts m s
counts in_none s some h = record { grows = omega arith; moves = h; given = inl refl }
counts in_own s some h = record {
  grows = omega arith;
  moves = λ start number e. (let had = h start number e in (had.0, omega (arith, had.1)));
  given = inr (some, omega arith);
}
counts (in_move now) s some h = at (number_of_move s.moves now) refl
  where
    new : (start number : ℕ) (here : Bool) → (if here then Some s.next else number_of_move s.moves start) ≡ Some number → (0 < number) × (number < s.next + 1)
    new start number true e = let is : s.next ≡ number = cc in (omega (arith, is, some), omega (arith, is))
    new start number false e = let had = h start number e in (had.0, omega (arith, had.1))

    at : (o : Option ℕ) → number_of_move s.moves now ≡ o → Counts (in_move now) s
    at (Some number) e =
        let had = h now number e in
        let same : counted (in_move now) s ≡ s = ap (λ o. counted_move now o s) e in
        let is : number_for (in_move now) s ≡ number = ap (λ o. unwrap_or o s.next) e in record {
          grows = omega (arith, ap (λ (t : Numbering). t.next) same);
          moves = λ start other f. let old = h start other (ap (λ (t : Numbering). number_of_move t.moves start) (sym same) ∙ f) in
              (old.0, omega (arith, old.1, ap (λ (t : Numbering). t.next) same));
          given = inr (omega (arith, is, had.0), omega (arith, is, had.1, ap (λ (t : Numbering). t.next) same));
        }
    at None e =
        let same : counted (in_move now) s ≡ counted_move now None s = ap (λ o. counted_move now o s) e in
        let is : number_for (in_move now) s ≡ s.next = ap (λ o. unwrap_or o s.next) e in record {
          grows = omega (arith, ap (λ (t : Numbering). t.next) same);
          moves = λ start other f.
              let had = new start other (now == start) (ap (λ (t : Numbering). number_of_move t.moves start) (sym same) ∙ f) in
              (had.0, omega (arith, had.1, ap (λ (t : Numbering). t.next) same));
          given = inr (omega (arith, is, some), omega (arith, is, ap (λ (t : Numbering). t.next) same));
        }

-- an element that is in no revision has no kind
none-plain : (kind : Kind) (p : Option Pair) → membership kind p ≡ in_none → kind ≡ Plain
none-plain Plain p e = refl
none-plain (Content x) None e = cc
none-plain (Content x) (Some pair) e = cc
none-plain (Mark x) None e = cc
none-plain (Mark x) (Some pair) e = cc
none-plain (Row x) None e = cc
none-plain (Row x) (Some pair) e = cc
none-plain (Cell x) None e = cc
none-plain (Cell x) (Some pair) e = cc
none-plain (Change x) None e = cc
none-plain (Change x) (Some pair) e = cc
none-plain Marker None e = cc
none-plain Marker (Some pair) e = cc

module _ (value : Value) (moves : List Pair) where
  record Labels (ancestors : List Spot) (at : ℕ) (s : Numbering) (nodes : Nodes) : Type 0 where
    grows : s.next ≤ (numbering_after value moves ancestors at s nodes).next
    moved : MovesIn (numbering_after value moves ancestors at s nodes)
    all : AllIn (numbering_after value moves ancestors at s nodes).next (labelled value moves ancestors at s nodes)

  labels : (ancestors : List Spot) (at : ℕ) (s : Numbering) (nodes : Nodes) → 0 < s.next → MovesIn s → Labels ancestors at s nodes
  labels ancestors at s no_nodes some h = record { grows = omega arith; moved = h; all = tt }
  labels ancestors at s (bytes b rest) some h =
      let later = labels ancestors at s rest some h in
      record { grows = later.grows; moved = later.moved; all = later.all }
  labels ancestors at s (element tag kids rest) some h =
      let x = seen_one ancestors at tag kids in
      let m = revision_of value moves x in
      let one = counts m s some h in
      let inner = labels (spot at tag kids ∷ ancestors) (at + 1) (counted m s) kids (omega (arith, one.grows, some)) one.moves in
      let after = numbering_after value moves (spot at tag kids ∷ ancestors) (at + 1) (counted m s) kids in
      let later = labels ancestors (at + 2 + tags kids) after rest (omega (arith, one.grows, some, inner.grows)) inner.moved in
      let last = (numbering_after value moves ancestors (at + 2 + tags kids) after rest).next in
      record {
        grows = omega (arith, one.grows, inner.grows, later.grows);
        moved = later.moved;
        all = (
          own m refl one.given (omega (arith, inner.grows, later.grows)),
          all-more after.next last (labelled value moves (spot at tag kids ∷ ancestors) (at + 1) (counted m s) kids) later.grows inner.all,
          later.all,
        );
      }
    where
      own : (m : Membership) → revision_of value moves (seen_one ancestors at tag kids) ≡ m
          → (m ≡ in_none) ⊎ ((0 < number_for m s) × (number_for m s < (counted m s).next)) → {last : ℕ} → (counted m s).next ≤ last
          → (whole_role value moves (seen_one ancestors at tag kids) ≡ Plain)
          ⊎ ((0 < number_for (revision_of value moves (seen_one ancestors at tag kids)) s) × (number_for (revision_of value moves (seen_one ancestors at tag kids)) s < last))
      own m is (inl none) le = inl (none-plain (whole_role value moves (seen_one ancestors at tag kids)) (move_of value moves (seen_one ancestors at tag kids)) (is ∙ none))
      own m is (inr (some, below)) le = inr (omega (arith, ap (λ i. number_for i s) is, some), omega (arith, ap (λ i. number_for i s) is, below, le))

-- ---- says that decide all

-- this many says are given, and none is Keep
record DecideAll (says : List Say) (n : ℕ) : Type 0 where
  many : n ≤ length says + 1
  all : list_all (λ say. not (is_keep say)) says ≡ true

decided-at : (says : List Say) (n : ℕ) → n < length says → list_all (λ say. not (is_keep say)) says ≡ true → not (is_keep (unwrap_or (slice_get says n) Keep)) ≡ true
decided-at [] n within all = absurd (omega (arith, within))
decided-at (say ∷ says) zero within all = (and_parts (not (is_keep say)) (list_all (λ say. not (is_keep say)) says) all).0
decided-at (say ∷ says) (suc n) within all =
    decided-at says n (omega (arith, within)) (and_parts (not (is_keep say)) (list_all (λ say. not (is_keep say)) says) all).1

say-decided : (says : List Say) (n rev : ℕ) → DecideAll says n → 0 < rev → rev < n → not (is_keep (say_of says rev)) ≡ true
say-decided says n zero d some below = absurd (omega (arith, some))
say-decided says n (suc k) d some below = decided-at says k (omega (arith, below, d.many)) d.all

one-said : (says : List Say) (n : ℕ) (ancestors : List Tag) (tag : Tag) (kids : Nodes) → DecideAll says n → IsIn n tag → is_said says ancestors tag kids ≡ true
one-said says n ancestors tag kids d (inl plain) = or_left (is_plain tag.kind) (not (is_keep (say_of says tag.rev))) (ap is_plain plain)
one-said says n ancestors tag kids d (inr (some, below)) = or_right (is_plain tag.kind) (not (is_keep (say_of says tag.rev))) (say-decided says n tag.rev d some below)

all-said : (says : List Say) (n : ℕ) (ancestors : List Tag) (nodes : Nodes) → DecideAll says n → AllIn n nodes → everywhere (is_said says) ancestors nodes ≡ true
all-said says n ancestors no_nodes d h = refl
all-said says n ancestors (bytes b rest) d h = all-said says n ancestors rest d h
all-said says n ancestors (element tag kids rest) d h =
    and_from _ _ (and_from _ _ (one-said says n ancestors tag kids d h.0) (all-said says n (tag ∷ ancestors) kids d h.1)) (all-said says n ancestors rest d h.2)

-- ---- story by story

module _ (value : Value) where
  story-labels : (next : ℕ) (root : Tag) (kids : Nodes) → 0 < next
      → (next ≤ next_after_story value next root kids) × AllIn (next_after_story value next root kids) (labelled_story value next root kids)
  story-labels next root kids some =
      let all = labels value (moves_among value (seen root kids)) (root_spots root kids) 1 (start_with next) kids some (λ start number e. cc) in
      (all.grows, all.all)

  left-grows : (next : ℕ) (xs : List Element) → 0 < next → next ≤ left_after (number_rule value) next xs
  left-grows next [] some = omega arith
  left-grows next (x ∷ xs) some =
      let here = story-labels next x.tag x.kids some in
      let later = left-grows (next_after_story value next x.tag x.kids) xs (omega (arith, some, here.0)) in
      omega (arith, here.0, later)

  stories-said : (says : List Say) (next : ℕ) (xs : List Element) → 0 < next → DecideAll says (left_after (number_rule value) next xs)
      → list_all (are_said says) (changed_stories (number_rule value) next xs) ≡ true
  stories-said says next [] some d = refl
  stories-said says next (x ∷ xs) some d =
      let here = story-labels next x.tag x.kids some in
      let after = next_after_story value next x.tag x.kids in
      let later : 0 < after = omega (arith, some, here.0) in
      let last = left_after (number_rule value) after xs in
      and_from _ _
      (all-said says last (x.tag ∷ []) (labelled_story value next x.tag x.kids) d
      (all-more after last (labelled_story value next x.tag x.kids) (left-grows after xs later) here.1))
      (stories-said says after xs later d)

-- ---- numbers that count from 1 end one behind those that count from 0

record IsOneMore (s t : Numbering) : Type 0 where
  next : t.next ≡ s.next + 1
  known : (start : ℕ) → is_some (number_of_move t.moves start) ≡ is_some (number_of_move s.moves start)

one-more : (m : Membership) (s t : Numbering) → IsOneMore s t → IsOneMore (counted m s) (counted m t)
one-more in_none s t h = h
one-more in_own s t h = record { next = omega (arith, h.next); known = h.known }
one-more (in_move now) s t h = at (number_of_move s.moves now) (number_of_move t.moves now) (h.known now)
  where
    new : (start : ℕ) (here : Bool) → is_some (if here then Some t.next else number_of_move t.moves start) ≡ is_some (if here then Some s.next else number_of_move s.moves start)
    new start true = refl
    new start false = h.known start

    at : (o p : Option ℕ) → is_some p ≡ is_some o → IsOneMore (counted_move now o s) (counted_move now p t)
    at None None e = record { next = omega (arith, h.next); known = λ start. new start (now == start) }
    at None (Some n) e = absurd (true≢false e)
    at (Some n) None e = absurd (true≢false (sym e))
    at (Some n) (Some k) e = h

module _ (value : Value) where
  after-more : (moves : List Pair) (ancestors : List Spot) (at : ℕ) (s t : Numbering) (nodes : Nodes) → IsOneMore s t
      → IsOneMore (numbering_after value moves ancestors at s nodes) (numbering_after value moves ancestors at t nodes)
  after-more moves ancestors at s t no_nodes h = h
  after-more moves ancestors at s t (bytes b rest) h = after-more moves ancestors at s t rest h
  after-more moves ancestors at s t (element tag kids rest) h =
      let m = revision_of value moves (seen_one ancestors at tag kids) in
      after-more moves ancestors (at + 2 + tags kids) _ _ rest
      (after-more moves (spot at tag kids ∷ ancestors) (at + 1) (counted m s) (counted m t) kids (one-more m s t h))

  pub left-more : (first next : ℕ) (xs : List Element) → next ≡ first + 1 → left_after (number_rule value) next xs ≡ left_after (number_rule value) first xs + 1
  left-more first next [] e = e
  left-more first next (x ∷ xs) e =
      left-more (next_after_story value first x.tag x.kids) (next_after_story value next x.tag x.kids) xs
      (after-more (moves_among value (seen x.tag x.kids)) (root_spots x.tag x.kids) 1 (start_with first) (start_with next) x.kids
      (record { next = e; known = λ start. refl })).next

  pub package-said : (says : List Say) (xs : List Element) → length says ≡ left_after (number_rule value) 0 xs → list_all (λ say. not (is_keep say)) says ≡ true
      → list_all (are_said says) (changed_stories (number_rule value) 1 xs) ≡ true
  package-said says xs many all =
      stories-said value says 1 xs (omega arith) (record { many = omega (arith, many, left-more 0 1 xs (omega arith)); all = all })
