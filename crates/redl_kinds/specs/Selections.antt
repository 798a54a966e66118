-- What a selection says of revisions (our own rule).
use Rattle.std.specs.Prelude.{◌==◌, ◌&&◌, ℕ, ℤ, Bool, List, nat_le}
use Rattle.redl_kinds.specs.declared.rev_kind.RevKind.{RevKind}
use Rattle.redl_kinds.specs.declared.group.Group.{Group}
use Rattle.redl_kinds.specs.declared.selection.Listed.{Listed}
use Rattle.redl_kinds.specs.declared.selection.Listed.TheVariants.{One, Range}

-- a choice of revisions
pub data Selection : Type 0 where
  -- each revision
  all : Selection
  -- what these items list
  numbers : List Listed → Selection
  -- the revisions of this author
  author : List ℕ → Selection
  -- the revisions made from the first moment on and before the second
  span : ℤ → ℤ → Selection
  -- the revisions of this kind
  kind : RevKind → Selection
  -- the revisions whose kind is in this group
  group : Group → Selection
  -- the revisions of the edits that these items list
  edits : List Listed → Selection

-- an item of a list has the number
abbrev pub has_number : ℕ → Listed → Bool
has_number number (One one) = one == number
has_number number (Range first last) = nat_le first number && nat_le number last
