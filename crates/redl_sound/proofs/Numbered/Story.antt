-- The numbers in one story that is labelled already.
use Rattle.std.proofs.Common.{◌≡◌, ◌≢◌, ◌∙◌, ◌⊎◌, inl, inr, refl, ap, sym, subst, ℕ, zero, suc, ◌+◌, ◌<◌, List, [], ◌∷◌, map, length, slice_get, Option, Some, None, IfSome, arith}
use Rattle.redl_tree.specs.Model.Nodes.{Tag, Nodes}
use Rattle.redl_tree.specs.Model.Seen.{Seen, seen, root_spots}
use Rattle.redl_tree.specs.Revisions.Markers.{move_of, whole_role}
use Rattle.redl_tree.specs.Revisions.Moves.{Marking, Pair, pairs, place_of}
use Rattle.redl_tree.specs.Revisions.Numbers.{Numbering, start_with, labelled_story}
use Rattle.redl_tree.specs.declared.kinds.Kind.TheVariants.{Plain}
use Rattle.redl_stamp.specs.Attribute.{attribute_value}
use Rattle.redl_stamp.specs.Stamp.{author_of, seconds_of}
use Rattle.redl_moves.specs.Marks.{RisesFrom}
use Rattle.redl_index.specs.Markers.Found.{markers_of, marker_tails}
use Rattle.redl_index.proofs.MarkerLaws.Rising.{between-rises, story-between}
use Rattle.redl_index.specs.Kinds.{kind_of}
use Rattle.redl_index.specs.Mentions.{Mention, mentions}
use Rattle.redl_index.specs.Revisions.{firsts, revision_of, story_revisions, numbered}
use Rattle.redl_index.specs.declared.revision.Revision.{Revision}
use Rattle.redl_index.proofs.NumberingLaws.{placed-move}
use Rattle.redl_sound.specs.Names.{IsOneMove, IsTellerOf, Names, StandsBefore}
use Rattle.redl_sound.proofs.Numbered.Apart.{fresh-start, shared-numbers}
use Rattle.redl_sound.proofs.Numbered.Lists.{IsPlaced, contains}
use Rattle.redl_sound.proofs.Numbered.Labelled.{HaveLabels, after_one, have-labels, seen-rise}
use Rattle.redl_sound.proofs.Numbered.Mentions.{Mentions, IsMentioned, mention-is, tail-at}
use Rattle.redl_sound.proofs.Numbered.Walk.{Earlier, IsNumbered, IsSoFar, AreNumbered, AreAll, mention_of, walk}

-- what stands at a place of the revisions of these mentions
pub numbered-at : (f : Mention → ℕ → Revision) (n : ℕ) (ms : List Mention) (place : ℕ) (m : Mention) → slice_get ms place ≡ Some m
    → slice_get (numbered n (map f ms)) place ≡ Some (f m (n + place))
numbered-at f n [] place m at = absurd (cc)
numbered-at f n (x ∷ ms) zero m at =
    let is : x ≡ m = cc in
    let none : n ≡ n + 0 = omega arith in
    ap (λ y. Some (f y n)) is ∙ ap (λ k. Some (f m k)) none
numbered-at f n (x ∷ ms) (suc place) m at =
    let one : (n + 1) + place ≡ n + suc place = omega arith in
    numbered-at f (n + 1) ms place m at ∙ ap (λ k. Some (f m k)) one

pub length-revisions : (f : Mention → ℕ → Revision) (n : ℕ) (ms : List Mention) → length (numbered n (map f ms)) ≡ length ms
length-revisions f n [] = refl
length-revisions f n (m ∷ ms) = ap suc (length-revisions f (n + 1) ms)

kind-of-all : (moves : List Pair) (s : Numbering) (xs : List Seen) → HaveLabels moves s xs → (i : ℕ) (x : Seen) → slice_get xs i ≡ Some x
    → x.own.tag.kind ≡ whole_role attribute_value moves x
kind-of-all moves s [] labels i x at = absurd (cc)
kind-of-all moves s (y ∷ xs) labels zero x at =
    let is : y ≡ x = cc in
    let P : Seen → Type 0 = λ z. z.own.tag.kind ≡ whole_role attribute_value moves z in
    subst P is labels.0.kind
kind-of-all moves s (y ∷ xs) labels (suc i) x at = kind-of-all moves (after_one moves s y) xs labels.1 i x at

-- ---- what is told of an element of the story

-- the element is in no revision
pub record IsNone (x : Seen) : Type 0 where
  pub number : x.own.tag.rev ≡ 0
  pub kind : x.own.tag.kind ≡ Plain

-- the element has the number of a place among the revisions of the story, counted from this one
pub record IsNamed (base part : ℕ) (elements : List Seen) (revisions : List Revision) (x : Seen) : Type 0 where
  pub place : ℕ
  pub number : x.own.tag.rev ≡ base + place
  pub kind : x.own.tag.kind ≡ Plain → ⊥
  pub names : Names revisions part elements x place
  pub before : (lower : ℕ) → lower < place → StandsBefore elements (base + lower) x.own.start

module _ (base part : ℕ) (root : Tag) (kids : Nodes) (is : labelled_story attribute_value base root kids ≡ kids) where
  abbrev elements : List Seen
  elements = seen root kids

  abbrev marks : List Marking
  marks = markers_of root kids

  abbrev tails : List (List ℕ)
  tails = marker_tails root kids

  abbrev all : List Mention
  all = firsts [] (mentions root kids)

  abbrev pub revisions : List Revision
  revisions = numbered base (story_revisions part root kids)

  labels : HaveLabels (pairs marks) (start_with base) elements
  labels = have-labels (pairs marks) (root_spots root kids) 1 (start_with base) kids is

  begun : IsSoFar marks tails base elements [] [] (start_with base) 1
  begun = record {
    next = none base;
    known = λ k. refl;
    moves = λ k n e. absurd (cc);
    earlier = λ place within. absurd (omega (arith, within));
  }
    where
      none : (n : ℕ) → n ≡ n + 0
      none n = omega arith

  walked : AreNumbered marks tails base all elements elements × AreAll marks tails base all elements
  walked = walk marks tails base all elements (start_with base) [] [] 1 elements begun refl labels (seen-rise (root_spots root kids) 1 kids) (λ i x e. (i, e))

  rising : RisesFrom 0 marks
  rising = between-rises 0 _ marks (story-between attribute_value (root_spots root kids) kids)

  module _ (x : Seen) (kind : x.own.tag.kind ≡ whole_role attribute_value (pairs marks) x) where
    teller : (m first : Mention) (number : ℕ) → first.kind ≡ m.kind → first.tail ≡ m.tail
        → (p : Option Pair) → move_of attribute_value (pairs marks) x ≡ p → Mentions marks tails x.own.tag.tail (whole_role attribute_value (pairs marks) x) p m
        → IsTellerOf elements x (revision_of part (mentions root kids) first number) p
    teller m first number same_kind same_tail None e h = record {
      kind = ap kind_of kind ∙ h.1 ∙ ap Some (sym same_kind);
      author = ap author_of (same_tail ∙ h.2);
      seconds = ap seconds_of (same_tail ∙ h.2);
    }
    teller m first number same_kind same_tail (Some pair) e h =
        let P : Option Pair → Type 0 = λ o. IfSome o (λ (move : Pair). place_of marks move.source.start.at < length marks) in
        let source = tail-at elements pair.source.start.at (subst P e (placed-move marks rising x)) in (
          record { element = source.element; among = contains elements source.element source.among; start = source.start },
          record {
            kind = ap Some (sym (same_kind ∙ h.1));
            author = ap author_of (same_tail ∙ h.2 ∙ source.tail);
            seconds = ap seconds_of (same_tail ∙ h.2 ∙ source.tail);
          },
        )

    told : 0 < base → (o : Option Mention) → IsNumbered base all elements x o
        → IsMentioned marks tails x.own.tag.tail (whole_role attribute_value (pairs marks) x) (move_of attribute_value (pairs marks) x) o
        → IsNone x ⊎ IsNamed base part elements revisions x
    told positive None number mentioned = inl (record { number = number; kind = kind ∙ mentioned })
    told positive (Some m) number mentioned = inr (record {
      place = number.place;
      number = number.number;
      kind = λ plain. mentioned.1 (sym kind ∙ plain);
      names = record {
        revision = revision_of part (mentions root kids) number.first (base + number.place);
        listed = numbered-at (revision_of part (mentions root kids)) base all number.place number.first number.listed;
        is_part = refl;
        told = teller m number.first (base + number.place) number.kind number.tail (move_of attribute_value (pairs marks) x) refl mentioned.0;
      };
      before = λ lower within. earlier lower (number.earlier lower within);
    })
      where
        earlier : (lower : ℕ) → Earlier elements base lower x.own.start → StandsBefore elements (base + lower) x.own.start
        earlier lower e = record { element = e.element; among = contains elements e.element e.among; number = e.number; before = e.before }

  -- each element is in no revision, or has the number of one
  pub story-named : 0 < base → (x : Seen) → IsPlaced elements x → IsNone x ⊎ IsNamed base part elements revisions x
  story-named positive x at =
      told x (kind-of-all (pairs marks) (start_with base) elements labels at.0 x at.1) positive (mention_of marks tails base all elements x) (walked.0 at.0 x at.1)
      (mention-is marks tails x.own.tag.tail (whole_role attribute_value (pairs marks) x) (move_of attribute_value (pairs marks) x))

  -- each number stands on an element
  pub story-each : (place : ℕ) → place < length revisions → (x : Seen) × IsPlaced elements x × (x.own.tag.rev ≡ base + place)
  story-each place within = walked.1 place (omega (arith, within, length-revisions (revision_of part (mentions root kids)) base all))

  -- elements that share a number are one, or are of one move
  pub story-apart : (x y : Seen) → IsPlaced elements x → IsPlaced elements y → x.own.tag.rev ≢ 0 → y.own.tag.rev ≡ x.own.tag.rev
      → (x ≡ y) ⊎ IsOneMove (move_of attribute_value (pairs marks) x) (move_of attribute_value (pairs marks) y)
  story-apart x y at there = shared-numbers (pairs marks) (start_with base) elements labels (fresh-start base) at.0 there.0 x y at.1 there.1
