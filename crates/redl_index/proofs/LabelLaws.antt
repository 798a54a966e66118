-- Laws of the numbers in a story.
use Rattle.std.proofs.Common.{◌≡◌, ◌∙◌, refl, ap, sym, ℕ, ◌+◌, ◌≤◌, List, [], ◌∷◌, ◌++◌, Option, Some, None, arith}
use Rattle.redl_tree.specs.Model.Count.{count}
use Rattle.redl_tree.specs.Model.Nodes.{Nodes, no_nodes, bytes, element}
use Rattle.redl_tree.specs.Model.Seen.{Spot, spot, Seen, seen_one, seen_from, tags}
use Rattle.redl_tree.specs.Revisions.Moves.{Pair}
use Rattle.redl_tree.specs.Revisions.Numbers.{Membership, in_none, in_own, in_move, Numbering, number_of_move, counted, counted_move, revision_of, numbering_after}
use Rattle.redl_stamp.specs.Attribute.{attribute_value}

-- how far the numbering is behind these elements
abbrev pub counted_all : List Pair → Numbering → List Seen → Numbering
counted_all moves so_far [] = so_far
counted_all moves so_far (x ∷ xs) = counted_all moves (counted (revision_of attribute_value moves x) so_far) xs

module _ (moves : List Pair) where
  counted-append : (s : Numbering) (xs ys : List Seen) → counted_all moves s (xs ++ ys) ≡ counted_all moves (counted_all moves s xs) ys
  counted-append s [] ys = refl
  counted-append s (x ∷ xs) ys = counted-append (counted (revision_of attribute_value moves x) s) xs ys

  -- the numbering is a fold over the elements
  pub numbering-fold : (ancestors : List Spot) (at : ℕ) (s : Numbering) (nodes : Nodes) →
      numbering_after attribute_value moves ancestors at s nodes ≡ counted_all moves s (seen_from ancestors at nodes)
  numbering-fold ancestors at s no_nodes = refl
  numbering-fold ancestors at s (bytes b rest) = numbering-fold ancestors at s rest
  numbering-fold ancestors at s (element tag kids rest) =
      let one = counted (revision_of attribute_value moves (seen_one ancestors at tag kids)) s in
      let inner = seen_from (spot at tag kids ∷ ancestors) (at + 1) kids in
      ap (λ n. numbering_after attribute_value moves ancestors (at + 2 + tags kids) n rest) (numbering-fold (spot at tag kids ∷ ancestors) (at + 1) one kids)
      ∙ numbering-fold ancestors (at + 2 + tags kids) (counted_all moves one inner) rest
      ∙ sym (counted-append one inner (seen_from ancestors (at + 2 + tags kids) rest))

-- ---- how far numbers go

-- the next number is at most one more, and no less
pub record GoesOn (before after many : ℕ) : Type 0 where
  pub at_least : before ≤ after
  pub at_most : after ≤ before + many

pub counted-goes : (i : Membership) (s : Numbering) → GoesOn s.next (counted i s).next 1
counted-goes in_none s = record { at_least = omega arith; at_most = omega arith }
counted-goes in_own s = record { at_least = omega arith; at_most = omega arith }
counted-goes (in_move start) s = by (number_of_move s.moves start)
  where
    by : (o : Option ℕ) → GoesOn s.next (counted_move start o s).next 1
    by None = record { at_least = omega arith; at_most = omega arith }
    by (Some n) = record { at_least = omega arith; at_most = omega arith }

pub numbering-goes : (moves : List Pair) (ancestors : List Spot) (at : ℕ) (s : Numbering) (nodes : Nodes) →
    GoesOn s.next (numbering_after attribute_value moves ancestors at s nodes).next (count nodes)
numbering-goes moves ancestors at s no_nodes = record { at_least = omega arith; at_most = omega arith }
numbering-goes moves ancestors at s (bytes b rest) =
    let more = numbering-goes moves ancestors at s rest in
    record { at_least = more.at_least; at_most = omega (arith, more.at_most) }
numbering-goes moves ancestors at s (element tag kids rest) =
    let i = revision_of attribute_value moves (seen_one ancestors at tag kids) in
    let own = counted-goes i s in
    let below = numbering-goes moves (spot at tag kids ∷ ancestors) (at + 1) (counted i s) kids in
    let inner = numbering_after attribute_value moves (spot at tag kids ∷ ancestors) (at + 1) (counted i s) kids in
    let later = numbering-goes moves ancestors (at + 2 + tags kids) inner rest in
    record {
      at_least = omega (arith, own.at_least, below.at_least, later.at_least);
      at_most = omega (arith, own.at_most, below.at_most, later.at_most);
    }
