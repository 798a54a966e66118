-- The mention that an element makes, and the attributes at the start of a move's source.
use Rattle.std.proofs.Common.{◌≡◌, ◌∙◌, refl, sym, subst, ℕ, suc, ◌+◌, ◌<◌, ◌==◌, List, [], ◌∷◌, Bool, true, false, filter_map, length, get_or, Option, Some, None, option_map, arith, if◌then◌else◌}
use Rattle.std.specs.List.{cons_option}
use Rattle.std.proofs.lemmas.Bool.{eqb-true}
use Rattle.redl_tree.specs.Model.Seen.{Seen}
use Rattle.redl_tree.specs.Revisions.Markers.{marker_of}
use Rattle.redl_tree.specs.Revisions.Moves.{Marking, Pair, place_of}
use Rattle.redl_tree.specs.Revisions.Numbers.{Membership, in_none, in_own, in_move, membership}
use Rattle.redl_tree.specs.declared.kinds.Kind.{Kind}
use Rattle.redl_tree.specs.declared.kinds.Kind.TheVariants.{Content, Mark, Row, Cell, Change, Plain, Marker}
use Rattle.redl_stamp.specs.Attribute.{attribute_value}
use Rattle.redl_moves.specs.Starts.{start_in}
use Rattle.redl_index.specs.Markers.Found.{marker_tail}
use Rattle.redl_index.proofs.MarkerLaws.Rising.{marker-at}
use Rattle.redl_index.specs.Kinds.{kind_of}
use Rattle.redl_index.specs.Mentions.{Mention, mention_by}
use Rattle.redl_kinds.specs.declared.rev_kind.RevKind.TheVariants.{Move}
use Rattle.redl_sound.proofs.Numbered.Lists.{IsPlaced}

-- the revision that a mention is of
abbrev pub in_its : Option ℕ → Membership
in_its None = in_own
in_its (Some start) = in_move start

abbrev pub in_mention : Option Mention → Membership
in_mention None = in_none
in_mention (Some m) = in_its m.move

-- ---- what is mentioned

-- a mention of an element that is in a revision of its own, or of a move, by the attributes of the source's start
abbrev pub Mentions : List Marking → List (List ℕ) → List ℕ → Kind → Option Pair → Mention → Type 0
Mentions marks tails tail kind None m = (m.move ≡ None) × (kind_of kind ≡ Some m.kind) × (m.tail ≡ tail)
Mentions marks tails tail kind (Some pair) m =
    (m.move ≡ Some pair.source.start.at) × (m.kind ≡ Move) × (m.tail ≡ get_or tails (place_of marks pair.source.start.at) [])

-- how an element of this kind is mentioned: not at all, or as that
abbrev pub IsMentioned : List Marking → List (List ℕ) → List ℕ → Kind → Option Pair → Option Mention → Type 0
IsMentioned marks tails tail kind p None = kind ≡ Plain
IsMentioned marks tails tail kind p (Some m) = Mentions marks tails tail kind p m × (kind ≡ Plain → ⊥)

module _ (marks : List Marking) (tails : List (List ℕ)) (tail : List ℕ) where
  abbrev mention_at : Kind → Option Pair → Option Mention
  mention_at kind p = mention_by tails tail kind (option_map (start_in marks) p)

  pub mention-in : (kind : Kind) (p : Option Pair) → in_mention (mention_at kind p) ≡ membership kind p
  mention-in Plain p = refl
  mention-in (Content x) None = refl
  mention-in (Content x) (Some pair) = refl
  mention-in (Mark x) None = refl
  mention-in (Mark x) (Some pair) = refl
  mention-in (Row x) None = refl
  mention-in (Row x) (Some pair) = refl
  mention-in (Cell x) None = refl
  mention-in (Cell x) (Some pair) = refl
  mention-in (Change x) None = refl
  mention-in (Change x) (Some pair) = refl
  mention-in Marker None = refl
  mention-in Marker (Some pair) = refl

  pub mention-is : (kind : Kind) (p : Option Pair) → IsMentioned marks tails tail kind p (mention_at kind p)
  mention-is Plain p = refl
  mention-is (Content x) None = ((refl, refl, refl), λ e. cc)
  mention-is (Content x) (Some pair) = ((refl, refl, refl), λ e. cc)
  mention-is (Mark x) None = ((refl, refl, refl), λ e. cc)
  mention-is (Mark x) (Some pair) = ((refl, refl, refl), λ e. cc)
  mention-is (Row x) None = ((refl, refl, refl), λ e. cc)
  mention-is (Row x) (Some pair) = ((refl, refl, refl), λ e. cc)
  mention-is (Cell x) None = ((refl, refl, refl), λ e. cc)
  mention-is (Cell x) (Some pair) = ((refl, refl, refl), λ e. cc)
  mention-is (Change x) None = ((refl, refl, refl), λ e. cc)
  mention-is (Change x) (Some pair) = ((refl, refl, refl), λ e. cc)
  mention-is Marker None = ((refl, refl, refl), λ e. cc)
  mention-is Marker (Some pair) = ((refl, refl, refl), λ e. cc)

-- ---- the attributes at a move's start

-- the element with this position has these attributes
pub record Tail (xs : List Seen) (position : ℕ) (attributes : List ℕ) : Type 0 where
  pub element : Seen
  pub among : IsPlaced xs element
  pub start : element.own.start ≡ position
  pub tail : attributes ≡ element.own.tag.tail

one-more : (x : Seen) (xs : List Seen) (position : ℕ) (tail : List ℕ) → Tail xs position tail → Tail (x ∷ xs) position tail
one-more x xs position tail t = record { element = t.element; among = (suc t.among.0, t.among.1); start = t.start; tail = t.tail }

abbrev marks_in : List Seen → List Marking
marks_in xs = filter_map (marker_of attribute_value) xs

abbrev tails_in : List Seen → List (List ℕ)
tails_in xs = filter_map marker_tail xs

pub tail-at : (xs : List Seen) (position : ℕ) → place_of (marks_in xs) position < length (marks_in xs)
    → Tail xs position (get_or (tails_in xs) (place_of (marks_in xs) position) [])
tail-at [] position within = absurd (omega (arith, within))
tail-at (x ∷ xs) position within = by (marker_of attribute_value x) refl within (tail-at xs position)
  where
    Found : Type 0
    Found = place_of (marks_in xs) position < length (marks_in xs) → Tail xs position (get_or (tails_in xs) (place_of (marks_in xs) position) [])

    by : (o : Option Marking) → marker_of attribute_value x ≡ o → place_of (cons_option o (marks_in xs)) position < length (cons_option o (marks_in xs)) → Found
        → Tail (x ∷ xs) position (get_or (cons_option (option_map (λ mark. x.own.tag.tail) o) (tails_in xs)) (place_of (cons_option o (marks_in xs)) position) [])
    by None is within ih = one-more x xs position _ (ih within)
    by (Some mark) is within ih = at (mark.at == position) refl within
      where
        at : (b : Bool) → (mark.at == position) ≡ b → (if b then 0 else 1 + place_of (marks_in xs) position) < suc (length (marks_in xs))
            → Tail (x ∷ xs) position (get_or (x.own.tag.tail ∷ tails_in xs) (if b then 0 else 1 + place_of (marks_in xs) position) [])
        at true e within =
            record { element = x; among = (0, refl); start = sym (marker-at attribute_value x mark is) ∙ eqb-true mark.at position e; tail = refl }
        at false e within =
            let next : 1 + place_of (marks_in xs) position ≡ suc (place_of (marks_in xs) position) = omega arith in
            let P : ℕ → Type 0 = λ n. Tail (x ∷ xs) position (get_or (x.own.tag.tail ∷ tails_in xs) n []) in
            subst P (sym next) (one-more x xs position _ (ih (omega (arith, within))))
