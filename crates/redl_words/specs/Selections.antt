-- The texts of selections and of locks (our own rule).
use Rattle.std.specs.Prelude.{◌≡◌, ◌≢◌, ◌^◌, ◌<◌, ◌≤◌, ℕ, ℤ, List, [], ◌++◌, All, IsTrue, Some, codes, decimal, map}
use Rattle.std.specs.List.{join_with_byte}
use Rattle.redl_stamp.specs.Moment.{moment_of}
use Rattle.redl_kinds.specs.Kinds.{is_named}
use Rattle.redl_kinds.specs.KindNames.{kind_name}
use Rattle.redl_kinds.specs.declared.group.Group.{Group}
use Rattle.redl_kinds.specs.declared.group.Group.TheVariants as groups
use Rattle.redl_kinds.specs.declared.selection.Listed.{Listed}
use Rattle.redl_kinds.specs.declared.selection.Listed.TheVariants.{One, Range}
use Rattle.redl_kinds.specs.Selections.{Selection, all, numbers, author, span, kind, group, edits}
use Rattle.redl_kinds.specs.declared.lock.Lock.{Lock}
use Rattle.redl_kinds.specs.declared.lock.Lock.TheVariants.{Author, Kind, Span}

-- an item of a list: a number, or two with a dash between, in decimal digits without leading zeros
abbrev pub item_text : Listed → List ℕ
item_text (One number) = decimal number
item_text (Range first last) = decimal first ++ (codes "-" ++ decimal last)

-- numbers are at most 4294967295, and the first of a range is not greater than its last
abbrev pub IsItem : Listed → Type 0
IsItem (One number) = number < 2 ^ 32
IsItem (Range first last) = (first ≤ last) × (last < 2 ^ 32)

-- this label and one or more items with commas between
pub record ListsNumbers (label text : List ℕ) (listed : List Listed) : Type 0 where
  pub written : text ≡ label ++ join_with_byte 44 (map item_text listed)
  pub some : listed ≢ []
  pub items : All IsItem listed

-- `span:` and two dates with a slash between; the first is of the moment `start`, the second of `end`
pub record GivesSpan (text : List ℕ) (start end : ℤ) : Type 0 where
  pub first : List ℕ
  pub second : List ℕ
  pub written : text ≡ codes "span:" ++ (first ++ (codes "/" ++ second))
  pub starts : moment_of first ≡ Some start
  pub ends : moment_of second ≡ Some end

-- `kind:` and the name of the kind
pub record NamesKind (text : List ℕ) (of_kind : Rattle.redl_kinds.specs.declared.rev_kind.RevKind.RevKind) : Type 0 where
  pub written : text ≡ codes "kind:" ++ kind_name of_kind
  pub named : IsTrue (is_named of_kind)

-- the name of a group of kinds, which no kind has
abbrev pub group_name : Group → List ℕ
group_name groups.Content = codes "content"
group_name groups.Marks = codes "marks"
group_name groups.Rows = codes "rows"
group_name groups.Cells = codes "cells"
group_name groups.Props = codes "props"

-- the text means the selection
abbrev pub Means : List ℕ → Selection → Type 0
Means text all = text ≡ codes "all"
Means text (numbers listed) = ListsNumbers (codes "numbers:") text listed
Means text (author name) = text ≡ codes "author:" ++ name
Means text (span start end) = GivesSpan text start end
Means text (kind of_kind) = NamesKind text of_kind
Means text (group of_group) = text ≡ codes "kind:" ++ group_name of_group
Means text (edits listed) = ListsNumbers (codes "edit:") text listed

-- two dates with a slash between
pub record GivesDates (text : List ℕ) (start end : ℤ) : Type 0 where
  pub first : List ℕ
  pub second : List ℕ
  pub written : text ≡ first ++ (codes "/" ++ second)
  pub starts : moment_of first ≡ Some start
  pub ends : moment_of second ≡ Some end

-- the text means the lock: it is the name of an author, the name of a kind, or two dates as after `span:`
abbrev pub MeansLock : List ℕ → Lock → Type 0
MeansLock text (Author name) = text ≡ name
MeansLock text (Kind of_kind) = (text ≡ kind_name of_kind) × IsTrue (is_named of_kind)
MeansLock text (Span start end) = GivesDates text start end
