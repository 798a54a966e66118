-- Which revisions of a package a selection means (our own rule).
use Rattle.std.specs.Prelude.{◌&&◌, ◌≡◌, ◌≤◌, ◌+◌, ◌-◌, ◌++◌, min, max, ℕ, zero, suc, ℤ, int_le, int_lt, Bool, true, false, List, [], ◌∷◌, Option, Some, None, IsSomeAnd, IsTrue, Any, flat_map, fold, length, slice_get, if◌then◌else◌}
use Rattle.std.specs.List.{list_any, range_with_len}
use Rattle.std.specs.Str.{bytes_eq}
use Rattle.std.specs.Ordering.{nat_cmp}
use Rattle.std.specs.BTreeSet.{insert_key}
use Rattle.redl_index.specs.declared.revision.Revision.{Revision}
use Rattle.redl_kinds.specs.declared.selection.Listed.{Listed}
use Rattle.redl_kinds.specs.declared.selection.Listed.TheVariants.{One, Range}
use Rattle.redl_kinds.specs.Groups.{is_in}
use Rattle.redl_select.specs.declared.in_order.Bounds.{Bounds}
use Rattle.redl_kinds.specs.Kinds.{is_same_kind}
use Rattle.redl_kinds.specs.Selections.{Selection, all, numbers, author, span, kind, group, edits, has_number}

-- ---- the revisions that a selection means

-- the moment is from the first on and before the second; without a moment it isn't
abbrev pub is_within : ℤ → ℤ → Option ℤ → Bool
is_within start end None = false
is_within start end (Some moment) = int_le start moment && int_lt moment end

-- the edit of the revision with this number, where the edit of each is in the order of the numbers; numbers count from 1
abbrev pub edit_at : List ℕ → ℕ → Option ℕ
edit_at each_edit zero = None
edit_at each_edit (suc place) = slice_get each_edit place

-- an item has the number of this edit; where there is no edit none has it
abbrev pub is_of : List Listed → Option ℕ → Bool
is_of listed None = false
is_of listed (Some edit) = list_any (has_number edit) listed

-- The selection means this revision, where the edit of each is in the order of the numbers. A list of numbers means numbers, and is
-- no test of revisions. A list of edits means the revisions whose edit has one of its numbers.
abbrev pub selects : Selection → List ℕ → Revision → Bool
selects all each_edit revision = true
selects (numbers listed) each_edit revision = false
selects (author name) each_edit revision = bytes_eq revision.author name
selects (span start end) each_edit revision = is_within start end revision.seconds
selects (kind of_kind) each_edit revision = is_same_kind revision.kind of_kind
selects (group of_group) each_edit revision = is_in of_group revision.kind
selects (edits listed) each_edit revision = is_of listed (edit_at each_edit revision.number)

-- it lists edits: no other selection depends on them
abbrev pub asks_edits : Selection → Bool
asks_edits (edits listed) = true
asks_edits _ = false

-- ---- the set of numbers that are chosen

-- the revision with this number, if there is one; numbers count from 1
abbrev pub revision_at : List Revision → ℕ → Option Revision
revision_at revisions zero = None
revision_at revisions (suc place) = slice_get revisions place

-- the number is in the range, and not past the first one that a package with so many revisions doesn't have, where it isn't the
-- first of the range itself
pub record IsInRange (count first last number : ℕ) : Type 0 where
  pub begins : first ≤ number
  pub ends : number ≤ last
  pub stops : number ≤ max first (count + 1)

-- An item of a list chooses the number in a package with so many revisions. A number that stands alone is chosen also where the
-- package does not have it.
abbrev pub IsListed : ℕ → ℕ → Listed → Type 0
IsListed count number (One one) = one ≡ number
IsListed count number (Range first last) = IsInRange count first last number

-- the selection chooses this number: an item of its list does, or the selection means the revision that has it
abbrev pub IsChosen : List Revision → List ℕ → Selection → ℕ → Type 0
IsChosen revisions each_edit (numbers listed) number = Any (IsListed (length revisions) number) listed
IsChosen revisions each_edit selection number = IsSomeAnd (revision_at revisions number) (λ revision. IsTrue (selects selection each_edit revision))

-- ---- the same of one revision

-- the selection chooses this revision
abbrev pub chooses : Selection → List ℕ → Revision → Bool
chooses (numbers listed) each_edit revision = list_any (has_number revision.number) listed
chooses selection each_edit revision = selects selection each_edit revision

-- ---- the same numbers as a list

-- the numbers of the revisions that the selection means, where the first of these has this number
abbrev pub numbers_from : Selection → List ℕ → ℕ → List Revision → List ℕ
numbers_from selection each_edit number [] = []
numbers_from selection each_edit number (revision ∷ later) =
    let numbers_later = numbers_from selection each_edit (number + 1) later in
    if selects selection each_edit revision then number ∷ numbers_later else numbers_later

-- the numbers from the first to the last
abbrev pub numbers_between : ℕ → ℕ → List ℕ
numbers_between first last = range_with_len first ((last + 1) - first)

-- the numbers that an item of a list chooses in a package with so many revisions
abbrev pub listed_by : ℕ → Listed → List ℕ
listed_by count (One one) = one ∷ []
listed_by count (Range first last) = numbers_between first (min last (max first (count + 1)))

-- the numbers in their order, each once
abbrev pub in_order : List ℕ → List ℕ
in_order listed = fold (insert_key nat_cmp) [] listed

-- the numbers that the selection chooses
abbrev pub chosen : List Revision → List ℕ → Selection → List ℕ
chosen revisions each_edit (numbers listed) = in_order (flat_map (listed_by (length revisions)) listed)
chosen revisions each_edit selection = numbers_from selection each_edit 1 revisions

-- ---- how the code finds what items list

-- the first and the last number that an item of a list chooses in a package with so many revisions; where the first is greater, none is
abbrev pub bounds_of : ℕ → Listed → Bounds
bounds_of count (One one) = record { first = one; last = one }
bounds_of count (Range first last) = record { first = first; last = min last (max first (count + 1)) }

-- The numbers from this one on that are within some bounds. They are ascending and each is there once, where the bounds are in the
-- order of their first numbers.
abbrev pub numbers_within : ℕ → List Bounds → List ℕ
numbers_within next [] = []
numbers_within next (here ∷ later) = numbers_between (max next here.first) here.last ++ numbers_within (max next (here.last + 1)) later
