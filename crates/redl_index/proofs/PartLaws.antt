-- Where revisions stand, and that their numbers count from 1.
use Rattle.std.proofs.Common.{◌≡◌, ◌∙◌, refl, ap, sym, ℕ, zero, suc, ◌+◌, List, [], ◌∷◌, All, map, slice_get, Option, Some, None, IsSome, option_map, option_and_then, arith, subst}
use Rattle.std.proofs.lemmas.Option.{slice_get_within}
use Rattle.redl_tree.specs.Model.Nodes.{Nodes}
use Rattle.redl_opc.specs.Elements.{Element}
use Rattle.redl_opc.specs.Parts.{name_in, part_name, story}
use Rattle.redl_opc.specs.Shape.{parts_of, story_of}
use Rattle.redl_index.specs.Inside.Markers.Free.{Every}
use Rattle.redl_index.specs.Mentions.{Mention, mentions}
use Rattle.redl_index.specs.Revisions.{revision_of, story_revisions, revisions_in, revisions_from, numbered, revisions_of, AreNumbered, IsInStory, firsts}
use Rattle.redl_index.specs.declared.revision.Revision.{Revision}
use Rattle.redl_index.proofs.EveryLaws.{every-append}
use Rattle.redl_index.proofs.IndexLaws.{AreNumberedFrom}

-- ---- of each revision, whatever its number

-- what holds of the revisions of each story holds of those of parts
every-from : (P : (ℕ → Revision) → Type 0) (nodes : Nodes)
    → ((number : ℕ) (root part : Element) → slice_get (parts_of nodes) number ≡ Some part → story_of part ≡ Some root → Every P (story_revisions number root.tag root.kids))
    → (number : ℕ) (later : List Element) → ((k : ℕ) → slice_get (parts_of nodes) (number + k) ≡ slice_get later k) → Every P (revisions_from number later)
every-from P nodes each number [] there = tt
every-from P nodes each number (part ∷ later) there =
    every-append P (revisions_in number (story_of part)) (revisions_from (number + 1) later) (by (story_of part) refl)
    (every-from P nodes each (number + 1) later behind)
  where
    none : (n : ℕ) → n ≡ n + 0
    none n = omega arith

    one : (n k : ℕ) → (n + 1) + k ≡ n + suc k
    one n k = omega arith

    behind : (k : ℕ) → slice_get (parts_of nodes) ((number + 1) + k) ≡ slice_get later k
    behind k = ap (slice_get (parts_of nodes)) (one number k) ∙ there (suc k)

    by : (root : Option Element) → story_of part ≡ root → Every P (revisions_in number root)
    by None is = tt
    by (Some root) is = each number root part (ap (slice_get (parts_of nodes)) (none number) ∙ there 0) is

every-of : (P : (ℕ → Revision) → Type 0) (nodes : Nodes)
    → ((number : ℕ) (root part : Element) → slice_get (parts_of nodes) number ≡ Some part → story_of part ≡ Some root → Every P (story_revisions number root.tag root.kids))
    → Every P (revisions_from 0 (parts_of nodes))
every-of P nodes each = every-from P nodes each 0 (parts_of nodes) (λ k. ap (slice_get (parts_of nodes)) (none k))
  where
    none : (k : ℕ) → 0 + k ≡ k
    none k = omega arith

-- ---- numbers

-- it has the number that it is given
abbrev HasItsNumber : (ℕ → Revision) → Type 0
HasItsNumber revision = (number : ℕ) → (revision number).number ≡ number

story-numbers : (part : ℕ) (story ms : List Mention) → Every HasItsNumber (map (revision_of part story) ms)
story-numbers part story [] = tt
story-numbers part story (m ∷ ms) = ((λ number. refl), story-numbers part story ms)

numbers-from : (first : ℕ) (rs : List (ℕ → Revision)) → Every HasItsNumber rs → AreNumberedFrom first (numbered first rs)
numbers-from first [] each k x at = absurd (cc)
numbers-from first (r ∷ rs) each zero x at =
    let same : r first ≡ x = cc in
    ap (λ (y : Revision). y.number) (sym same) ∙ each.0 first ∙ omega arith
numbers-from first (r ∷ rs) each (suc k) x at = numbers-from (first + 1) rs each.1 k x at ∙ omega arith

-- the numbers of the revisions of a package count from 1
pub numbers-revisions_of : (nodes : Nodes) → AreNumbered (revisions_of nodes)
numbers-revisions_of nodes =
    numbers-from 1 (revisions_from 0 (parts_of nodes))
    (every-of HasItsNumber nodes (λ number root part at is. story-numbers number (mentions root.tag root.kids) (firsts [] (mentions root.tag root.kids))))

-- ---- stories

-- whatever its number, its part is a story
abbrev StandsIn : Nodes → (ℕ → Revision) → Type 0
StandsIn nodes revision = (number : ℕ) → IsInStory nodes (revision number)

some-is : {X : Type 0} (o : Option X) (x : X) → o ≡ Some x → IsSome o
some-is o x is = subst IsSome (sym is) refl

story-stands : (nodes : Nodes) (number : ℕ) (root part : Element) → slice_get (parts_of nodes) number ≡ Some part → story_of part ≡ Some root
    → (story ms : List Mention) → Every (StandsIn nodes) (map (revision_of number story) ms)
story-stands nodes number root part at is story_ [] = tt
story-stands nodes number root part at is story_ (m ∷ ms) = (
  λ n.
      record {
        is_part = slice_get_within (parts_of nodes) number part at;
        has_name = some-is (part_name nodes number) (name_in part.tag) (ap (option_map (λ part. name_in part.tag)) at);
        has_story = some-is (story nodes number) root (ap (option_and_then story_of) at ∙ is);
      },
  story-stands nodes number root part at is story_ ms,
)

all-numbered : (nodes : Nodes) (first : ℕ) (rs : List (ℕ → Revision)) → Every (StandsIn nodes) rs → All (IsInStory nodes) (numbered first rs)
all-numbered nodes first [] each k d within = absurd (omega (arith, within))
all-numbered nodes first (r ∷ rs) each zero d within = each.0 first
all-numbered nodes first (r ∷ rs) each (suc k) d within = all-numbered nodes (first + 1) rs each.1 k d (omega (arith, within))

-- the part of each revision is a story with a name
pub revisions-in_story : (nodes : Nodes) → All (IsInStory nodes) (revisions_of nodes)
revisions-in_story nodes =
    all-numbered nodes 1 (revisions_from 0 (parts_of nodes))
    (every-of (StandsIn nodes) nodes (λ number root part at is. story-stands nodes number root part at is (mentions root.tag root.kids) (firsts [] (mentions root.tag root.kids))))
