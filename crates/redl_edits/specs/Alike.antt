-- Which revisions may be of one act of an editor: those of one author with dates that are near (our own rule).
use Rattle.std.specs.Prelude.{ℕ, zero, suc, ℤ, pos, int_le, ◌+ℤ◌, ◌&&◌, Bool, true, false, List, bytes_eq, slice_get, Option, None, Some}
use Rattle.redl_index.specs.declared.revision.Revision.{Revision}
use Rattle.redl_kinds.specs.Groups.{is_in}
use Rattle.redl_kinds.specs.declared.group.Group.TheVariants.{Props}

-- the revision with this number, if there is one; numbers count from 1
abbrev pub revision_at : List Revision → ℕ → Option Revision
revision_at revisions zero = None
revision_at revisions (suc place) = slice_get revisions place

-- at most one minute apart
abbrev pub are_within_minute : ℤ → ℤ → Bool
are_within_minute one two = int_le one (two +ℤ pos 60) && int_le two (one +ℤ pos 60)

-- the dates are near, or neither is there or can be read
abbrev pub are_near : Option ℤ → Option ℤ → Bool
are_near None None = true
are_near (Some one) (Some two) = are_within_minute one two
are_near _ _ = false

-- one author, the empty one too, and near dates
abbrev pub are_alike : Revision → Revision → Bool
are_alike one two = bytes_eq one.author two.author && are_near one.seconds two.seconds

abbrev pub are_alike_if : Option Revision → Option Revision → Bool
are_alike_if (Some one) (Some two) = are_alike one two
are_alike_if _ _ = false

-- the revisions with these numbers are there, and are alike
abbrev pub are_alike_at : List Revision → ℕ → ℕ → Bool
are_alike_at revisions v w = are_alike_if (revision_at revisions v) (revision_at revisions w)

abbrev pub is_change_if : Option Revision → Bool
is_change_if None = false
is_change_if (Some revision) = is_in Props revision.kind

-- the revision with this number is a change of properties
abbrev pub is_change_at : List Revision → ℕ → Bool
is_change_at revisions v = is_change_if (revision_at revisions v)
