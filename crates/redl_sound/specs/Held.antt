-- Elements whose revision a lock holds (ECMA-376 Part 1, 17.13.5; the locks are our own rule).
use Rattle.std.specs.Prelude.{◌≡◌, ℕ, List, [], true, Option, Some, None, Contains}
use Rattle.std.specs.List.{list_any}
use Rattle.redl_index.specs.Numbers.{numbered_package}
use Rattle.redl_index.specs.Revisions.{revisions_of}
use Rattle.redl_index.specs.declared.revision.Revision.{Revision}
use Rattle.redl_sound.specs.Names.{IsTellerOf, StandsAt}
use Rattle.redl_opc.specs.Elements.{Element}
use Rattle.redl_opc.specs.Parts.{story}
use Rattle.redl_opc.specs.Shape.{refusal}
use Rattle.redl_select.specs.Locks.{holds}
use Rattle.redl_kinds.specs.declared.lock.Lock.TheVariants.{Author}
use Rattle.redl_session.specs.Sessions.{SessionState}
use Rattle.redl_stamp.specs.Attribute.{attribute_value}
use Rattle.redl_stamp.specs.Stamp.{author_of}
use Rattle.redl_tree.specs.Model.Seen.{Seen, seen}
use Rattle.redl_tree.specs.Revisions.Markers.{move_of, moves_among}
use Rattle.redl_tree.specs.Revisions.Moves.{Pair}

-- a session over a package with numbers and its revisions, before any entry
pub record IsBegun (state : SessionState) : Type 0 where
  pub shape : refusal state.nodes ≡ None
  pub numbered : numbered_package state.nodes ≡ state.nodes
  pub index : state.revisions ≡ revisions_of state.nodes
  pub empty : state.book ≡ []

-- the paired move of an element of the story with these elements, if it is in one
abbrev pub move_in : List Seen → Seen → Option Pair
move_in elements element = move_of attribute_value (moves_among attribute_value elements) element

-- an element of a story of the package, of which some lock holds the revision that it tells
pub record IsHeld (state : SessionState) (element : Seen) : Type 0 where
  pub part : ℕ
  pub root : Element
  pub is_story : story state.nodes part ≡ Some root
  pub among : Contains (seen root.tag root.kids) element
  pub held : (revision : Revision) → IsTellerOf (seen root.tag root.kids) element revision (move_in (seen root.tag root.kids) element)
      → list_any (holds revision) state.locks ≡ true

-- the author that an element names, or of its move that the start of the source names
abbrev pub IsAuthor : List Seen → Seen → List ℕ → Option Pair → Type 0
IsAuthor elements element name None = name ≡ author_of element.own.tag.tail
IsAuthor elements element name (Some pair) = (source : StandsAt elements pair.source.start.at) × (name ≡ author_of source.element.own.tag.tail)

-- an element of a story of the package whose author is locked
pub record IsLocked (state : SessionState) (element : Seen) : Type 0 where
  pub part : ℕ
  pub root : Element
  pub is_story : story state.nodes part ≡ Some root
  pub among : Contains (seen root.tag root.kids) element
  pub author : List ℕ
  pub is_author : IsAuthor (seen root.tag root.kids) element author (move_in (seen root.tag root.kids) element)
  pub locked : Contains state.locks (Author author)
