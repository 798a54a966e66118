-- The revisions of a package and their numbers: each element of a story that has a role is a revision of its own, or belongs
-- to a paired move. Revisions are numbered from 1 through all stories, in the order of the first start tags of their members
-- and markers (ECMA-376 Part 1, 17.13.5; the numbers are our own rule). `value` gives the value of an attribute.
use Rattle.std.specs.Prelude.{ℕ, ◌+◌, ◌≡◌, ◌==◌, List, [], ◌∷◌, Option, Some, None, unwrap_or, if◌then◌else◌}
use Rattle.redl_tree.specs.Model.Nodes.{Tag, Nodes, no_nodes, bytes, element}
use Rattle.redl_tree.specs.Decisions.Packages.{stories, StoryRule, left_after, changed_package}
use Rattle.redl_tree.specs.Model.Seen.{Spot, spot, Seen, seen_one, root_spots, seen, tags}
use Rattle.redl_tree.specs.Revisions.Moves.{Pair}
use Rattle.redl_tree.specs.Revisions.Markers.{Value, moves_among, move_of, whole_role}
use Rattle.redl_tree.specs.declared.kinds.Kind.{Kind}
use Rattle.redl_tree.specs.declared.kinds.Kind.TheVariants.{Plain}

-- which revision an element is in: none, one of its own, or the paired move whose source starts at this position
pub data Membership : Type 0 where
  in_none : Membership
  in_own : Membership
  in_move : ℕ → Membership

-- the revision of an element with this role and this move, if it has one
abbrev pub membership : Kind → Option Pair → Membership
membership Plain move = in_none
membership _ None = in_own
membership _ (Some pair) = in_move pair.source.start.at

-- a move with its number; it is known by the position of its source's start
pub record Numbered : Type 0 where
  pub start : ℕ
  pub number : ℕ

-- the state of numbering a story: the next number, and the moves that have a number so far
pub record Numbering : Type 0 where
  pub next : ℕ
  pub moves : List Numbered

-- the number of the move whose source starts at this position, if it has one
abbrev pub number_of_move : List Numbered → ℕ → Option ℕ
number_of_move [] start = None
number_of_move (move ∷ moves) start = if move.start == start then Some move.number else number_of_move moves start

-- the number of an element; 0 where it is in no revision
abbrev pub number_for : Membership → Numbering → ℕ
number_for in_none so_far = 0
number_for in_own so_far = so_far.next
number_for (in_move start) so_far = unwrap_or (number_of_move so_far.moves start) so_far.next

-- the state after a start tag of this move, which gets the next number if it has none
abbrev pub counted_move : ℕ → Option ℕ → Numbering → Numbering
counted_move start (Some number) so_far = so_far
counted_move start None so_far = record {
  next = so_far.next + 1;
  moves = record { start = start; number = so_far.next } ∷ so_far.moves;
}

-- the state after the start tag of an element
abbrev pub counted : Membership → Numbering → Numbering
counted in_none so_far = so_far
counted in_own so_far = record { next = so_far.next + 1; moves = so_far.moves }
counted (in_move start) so_far = counted_move start (number_of_move so_far.moves start) so_far

-- the revision of an element, given the moves of its story
abbrev pub revision_of : Value → List Pair → Seen → Membership
revision_of value moves seen = membership (whole_role value moves seen) (move_of value moves seen)

-- the state after nodes with these ancestors in their story, where the first tag has this position
abbrev pub numbering_after : Value → List Pair → List Spot → ℕ → Numbering → Nodes → Numbering
numbering_after value moves ancestors at so_far no_nodes = so_far
numbering_after value moves ancestors at so_far (bytes b rest) = numbering_after value moves ancestors at so_far rest
numbering_after value moves ancestors at so_far (element tag kids rest) =
    numbering_after value moves ancestors (at + 2 + tags kids)
    (numbering_after value moves (spot at tag kids ∷ ancestors) (at + 1) (counted (revision_of value moves (seen_one ancestors at tag kids)) so_far) kids)
    rest

-- a tag with its role as its kind, and with its number
abbrev pub labelled_tag : Value → List Pair → Numbering → Seen → Tag
labelled_tag value moves so_far seen = record seen.own.tag {
  kind = whole_role value moves seen;
  rev = number_for (revision_of value moves seen) so_far;
}

-- nodes with the kind and the number of each element
abbrev pub labelled : Value → List Pair → List Spot → ℕ → Numbering → Nodes → Nodes
labelled value moves ancestors at so_far no_nodes = no_nodes
labelled value moves ancestors at so_far (bytes b rest) = bytes b (labelled value moves ancestors at so_far rest)
labelled value moves ancestors at so_far (element tag kids rest) =
    element (labelled_tag value moves so_far (seen_one ancestors at tag kids))
    (labelled value moves (spot at tag kids ∷ ancestors) (at + 1) (counted (revision_of value moves (seen_one ancestors at tag kids)) so_far) kids)
    (labelled value moves ancestors (at + 2 + tags kids)
    (numbering_after value moves (spot at tag kids ∷ ancestors) (at + 1) (counted (revision_of value moves (seen_one ancestors at tag kids)) so_far) kids)
    rest)

-- the state before a story, where this is the next number
abbrev pub start_with : ℕ → Numbering
start_with next = record { next = next; moves = [] }

-- the kids of a story's root, labelled, where this is the next number
abbrev pub labelled_story : Value → ℕ → Tag → Nodes → Nodes
labelled_story value next root kids =
    labelled value (moves_among value (seen root kids)) (root_spots root kids) 1 (start_with next) kids

-- the next number after that story
abbrev pub next_after_story : Value → ℕ → Tag → Nodes → ℕ
next_after_story value next root kids =
    (numbering_after value (moves_among value (seen root kids)) (root_spots root kids) 1 (start_with next) kids).next

-- the stories of a package are labelled one after the other, where numbers go on from story to story
abbrev pub number_rule : Value → StoryRule ℕ
number_rule value = record { kids = labelled_story value; left = next_after_story value }

-- how many revisions a package has
abbrev pub package_revisions_by : Value → Nodes → ℕ
package_revisions_by value nodes = left_after (number_rule value) 0 (stories nodes)

-- a package whose members and markers have their kinds and numbers
abbrev pub numbered_package_by : Value → Nodes → Nodes
numbered_package_by value nodes = changed_package (number_rule value) 1 nodes

-- a package is indexed where its kinds and numbers are these already
abbrev pub IsIndexed : Value → Nodes → Type 0
IsIndexed value nodes = numbered_package_by value nodes ≡ nodes
