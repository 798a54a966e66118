-- Numbers are one thing: the number on an element of a package is the number of its revision in the list of the revisions
-- (ECMA-376 Part 1, 17.13.5; the numbers are our own rule).
use Rattle.std.specs.Prelude.{◌≡◌, ◌≢◌, ◌<◌, ◌≤◌, ◌↔◌, ◌⊎◌, ℕ, suc, List, Option, Some, None, Contains, slice_get}
use Rattle.redl_index.specs.Kinds.{kind_of}
use Rattle.redl_kinds.specs.declared.rev_kind.RevKind.{RevKind}
use Rattle.redl_kinds.specs.declared.rev_kind.RevKind.TheVariants.{Move}
use Rattle.redl_index.specs.declared.revision.Revision.{Revision}
use Rattle.redl_opc.specs.Elements.{Element}
use Rattle.redl_opc.specs.Parts.{story}
use Rattle.redl_stamp.specs.Attribute.{attribute_value}
use Rattle.redl_stamp.specs.Stamp.{author_of, seconds_of}
use Rattle.redl_tree.specs.Model.Nodes.{Nodes}
use Rattle.redl_tree.specs.Model.Seen.{Seen, seen}
use Rattle.redl_tree.specs.Revisions.Markers.{move_of, moves_among}
use Rattle.redl_tree.specs.Revisions.Moves.{Pair}
use Rattle.redl_tree.specs.declared.kinds.Kind.TheVariants.{Plain}

-- ---- one element and its revision

-- the revision has this kind, and the author and the moment that these attributes tell
pub record IsListable (of_kind : Option RevKind) (tail : List ℕ) (revision : Revision) : Type 0 where
  pub kind : of_kind ≡ Some revision.kind
  pub author : revision.author ≡ author_of tail
  pub seconds : revision.seconds ≡ seconds_of tail

-- an element of a story whose start tag has this position
pub record StandsAt (elements : List Seen) (position : ℕ) : Type 0 where
  pub element : Seen
  pub among : Contains elements element
  pub start : element.own.start ≡ position

-- The revision is that of an element of the story with these elements. Where the element is in no paired move, it tells the
-- revision itself. Else the revision is that move, told by the start of its source.
abbrev pub IsTellerOf : List Seen → Seen → Revision → Option Pair → Type 0
IsTellerOf elements element revision None = IsListable (kind_of element.own.tag.kind) element.own.tag.tail revision
IsTellerOf elements element revision (Some pair) =
    (source : StandsAt elements pair.source.start.at) × IsListable (Some Move) source.element.own.tag.tail revision

-- the revision at this place of the list is that of an element of the story in this part
pub record Names (revisions : List Revision) (part : ℕ) (elements : List Seen) (element : Seen) (place : ℕ) : Type 0 where
  pub revision : Revision
  pub listed : slice_get revisions place ≡ Some revision
  pub is_part : revision.part ≡ part
  pub told : IsTellerOf elements element revision (move_of attribute_value (moves_among attribute_value elements) element)

-- ---- the elements of a revision

-- an element of the story in this part has this number
pub record HasNumber (nodes : Nodes) (part wanted : ℕ) : Type 0 where
  pub root : Element
  pub is_story : story nodes part ≡ Some root
  pub element : Seen
  pub among : Contains (seen root.tag root.kids) element
  pub number : element.own.tag.rev ≡ wanted

-- an element among these with this number has its start tag before this position
pub record StandsBefore (elements : List Seen) (wanted position : ℕ) : Type 0 where
  pub element : Seen
  pub among : Contains elements element
  pub number : element.own.tag.rev ≡ wanted
  pub before : element.own.start < position

-- ---- a package and its revisions

-- The story in this part, whose elements these are: an element has no number exactly where it has no kind. Else the number is
-- that of its revision, whose place in the list is one less, as numbers count from 1. Each lower number of the part stands on an
-- element before it.
pub record NumbersNameIn (revisions : List Revision) (part : ℕ) (elements : List Seen) (element : Seen) : Type 0 where
  pub none : (element.own.tag.rev ≡ 0) ↔ (element.own.tag.kind ≡ Plain)
  pub named : (place : ℕ) → element.own.tag.rev ≡ suc place → Names revisions part elements element place
  pub before : (place lower : ℕ) (revision : Revision) → element.own.tag.rev ≡ suc place → lower < place
      → slice_get revisions lower ≡ Some revision → revision.part ≡ part → StandsBefore elements (suc lower) element.own.start

-- two elements of a story are of one paired move
abbrev pub IsOneMove : Option Pair → Option Pair → Type 0
IsOneMove (Some one) (Some other) = one.source.start.at ≡ other.source.start.at
IsOneMove _ _ = ⊥

-- the elements of the story with this root that share a number are one element, or are of one move
abbrev pub ShareMoves : Element → Type 0
ShareMoves root =
    let elements = seen root.tag root.kids in
    (one other : Seen) → Contains elements one → Contains elements other → one.own.tag.rev ≢ 0 → other.own.tag.rev ≡ one.own.tag.rev
    → (one ≡ other) ⊎ IsOneMove (move_of attribute_value (moves_among attribute_value elements) one) (move_of attribute_value (moves_among attribute_value elements) other)

-- the numbers on the elements of a package name these revisions: those of each element as they should, each revision by an element
-- of the story in its part, and numbers rise with the part; no two revisions share a number
pub record NumbersName (nodes : Nodes) (revisions : List Revision) : Type 0 where
  pub elements : (part : ℕ) (root : Element) (element : Seen) → story nodes part ≡ Some root → Contains (seen root.tag root.kids) element
      → NumbersNameIn revisions part (seen root.tag root.kids) element
  pub each : (place : ℕ) (revision : Revision) → slice_get revisions place ≡ Some revision → HasNumber nodes revision.part (suc place)
  pub rising : (lower higher : ℕ) (one other : Revision) → lower < higher → slice_get revisions lower ≡ Some one
      → slice_get revisions higher ≡ Some other → one.part ≤ other.part
  pub apart : (part : ℕ) (root : Element) → story nodes part ≡ Some root → ShareMoves root
