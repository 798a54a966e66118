-- Reading a selection: a list of numbers and ranges, or such a list of edits, an author, two dates, a kind or a group of kinds, or all.
use Rattle.std.specs.Prelude.{◌==◌, ℕ, ℤ, List, [], ◌∷◌, ◌++◌, Option, Some, None, codes, if◌then◌else◌, nat_le, option_map}
use Rattle.std.specs.List.{slice_split}
use Rattle.std.specs.Str.{bytes_eq}
use Rattle.redl_stamp.specs.Moment.{moment_of}
use Rattle.redl_journal.specs.Reading.{number_in}
use Rattle.redl_reading.specs.Steps.{◌>>=◌}
use Rattle.redl_reading.specs.Lists.{field_at}
use Rattle.redl_kinds.specs.KindNames.{kind_named}
use Rattle.redl_kinds.specs.declared.rev_kind.RevKind.{RevKind}
use Rattle.redl_kinds.specs.declared.group.Group.{Group}
use Rattle.redl_kinds.specs.declared.group.Group.TheVariants.{Content, Marks, Rows, Cells, Props}
use Rattle.redl_kinds.specs.declared.selection.Listed.{Listed}
use Rattle.redl_kinds.specs.declared.selection.Listed.TheVariants.{One, Range}
use Rattle.redl_kinds.specs.Selections.{Selection, all, numbers, author, span, kind, group, edits}

-- the range from the number of one text to that of another
unfoldable pub range_in : List ℕ → List ℕ → Option Listed
range_in first last = do
  start ← number_in first
  end ← number_in last
  if nat_le start end then Some (Range start end) else None

-- the same, given the two sides of the dash of a text that has one
abbrev pub item_parts : List ℕ → Option (List ℕ × List ℕ) → Option Listed
item_parts text None = option_map One (number_in text)
item_parts text (Some ends) = range_in ends.0 ends.1

-- the item that a text writes
unfoldable pub item_in : List ℕ → Option Listed
item_in text = item_parts text (field_at 45 text)

-- the items that these pieces write, after others
unfoldable pub numbers_after : List Listed → List (List ℕ) → Option (List Listed)
numbers_after listed [] = Some listed
numbers_after listed (piece ∷ pieces) = do
  item ← item_in piece
  numbers_after (listed ++ item ∷ []) pieces

-- the items that a text lists, with commas between
unfoldable pub numbers_in : List ℕ → Option (List Listed)
numbers_in text = numbers_after [] (slice_split (λ b. b == 44) text)

-- the two moments that a text names, with a slash between
unfoldable pub moments_in : List ℕ → Option (ℤ × ℤ)
moments_in text = do
  dates ← field_at 47 text
  start ← moment_of dates.0
  end ← moment_of dates.1
  Some (start, end)

abbrev pub span_in : List ℕ → Option Selection
span_in text = option_map (λ moments. span moments.0 moments.1) (moments_in text)

-- the group of kinds with this name
unfoldable pub group_named : List ℕ → Option Group
group_named name =
    if bytes_eq name (codes "content") then Some Content
    else if bytes_eq name (codes "marks") then Some Marks
    else if bytes_eq name (codes "rows") then Some Rows
    else if bytes_eq name (codes "cells") then Some Cells
    else if bytes_eq name (codes "props") then Some Props
    else None

-- a kind that was found, or else a group
abbrev pub kind_or : Option RevKind → Option Group → Option Selection
kind_or (Some of_kind) _ = Some (kind of_kind)
kind_or None found = option_map group found

-- the kind, or the group of kinds, with this name
abbrev pub kinds_in : List ℕ → Option Selection
kinds_in name = kind_or (kind_named name) (group_named name)

-- the selection with this label and this value
unfoldable pub labelled : List ℕ → List ℕ → Option Selection
labelled label value =
    if bytes_eq label (codes "numbers") then option_map numbers (numbers_in value)
    else if bytes_eq label (codes "author") then Some (author value)
    else if bytes_eq label (codes "kind") then kinds_in value
    else if bytes_eq label (codes "span") then span_in value
    else if bytes_eq label (codes "edit") then option_map edits (numbers_in value)
    else None

-- the selection without a label
abbrev pub unlabelled : List ℕ → Option Selection
unlabelled text = if bytes_eq text (codes "all") then Some all else None

-- the same, given the label and the value of a text that has them
abbrev pub selection_parts : List ℕ → Option (List ℕ × List ℕ) → Option Selection
selection_parts text None = unlabelled text
selection_parts text (Some parts) = labelled parts.0 parts.1

-- the selection that a text means
unfoldable pub selection_in : List ℕ → Option Selection
selection_in text = selection_parts text (field_at 58 text)
