-- Which positions of a story are free of markers: the start tags of elements that are none, and all end tags.
use Rattle.std.specs.Prelude.{◌≡◌, List, [], ◌∷◌, None}
use Rattle.redl_tree.specs.Model.Seen.{Spot, Seen}
use Rattle.redl_tree.specs.Revisions.Moves.{Marking}
use Rattle.redl_tree.specs.Revisions.Markers.{marker_of}
use Rattle.redl_stamp.specs.Attribute.{attribute_value}
use Rattle.redl_moves.specs.Standing.{IsApart}

-- each of these
abbrev pub Every : {X : Type 0} → (X → Type 0) → List X → Type 0
Every P [] = Unit {0}
Every P (x ∷ xs) = P x × Every P xs

-- no marker is at the end tags of these elements
abbrev pub AreFreeEnds : List Marking → List Spot → Type 0
AreFreeEnds marks spots = Every (λ (spot : Spot). IsApart spot.end marks) spots

-- no marker is at the start tag of the element, unless it is one itself, nor at its end tag, nor at those of its ancestors
pub record IsFree (marks : List Marking) (x : Seen) : Type 0 where
  pub start : marker_of attribute_value x ≡ None → IsApart x.own.start marks
  pub end : IsApart x.own.end marks
  pub ancestors : AreFreeEnds marks x.ancestors
