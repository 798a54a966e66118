-- Selections by hand, with the numbers that they choose.
use Rattle.std.proofs.Common.{◌≡◌, ℕ, [], ◌∷◌, List, Option, Some, None, true, false, refl}
use Rattle.std.specs.Prelude.{ℤ, pos, codes}
use Rattle.redl_tree.specs.declared.kinds.Trace.TheVariants.{Ins, Del}
use Rattle.redl_kinds.specs.declared.rev_kind.RevKind.{RevKind}
use Rattle.redl_kinds.specs.declared.rev_kind.RevKind.TheVariants.{Content, Row}
use Rattle.redl_index.specs.declared.revision.Revision.{Revision}
use Rattle.redl_kinds.specs.declared.group.Group.TheVariants as groups
use Rattle.redl_kinds.specs.declared.selection.Listed.TheVariants.{One, Range}
use Rattle.redl_kinds.specs.Selections.{all, numbers, author, span, kind, group, edits}
use Rattle.redl_select.specs.Selections.{chosen, chooses}

abbrev made_by : ℕ → RevKind → List ℕ → Option ℤ → Revision
made_by number of_kind name seconds = record { number = number; kind = of_kind; author = name; seconds = seconds; part = 0; members = 1 }

-- an insertion of a second, a deletion of the second after it, and an inserted row without a date
abbrev three : List Revision
three =
    made_by 1 (Content Ins) (codes "Ann") (Some (pos 1_714_979_289)) ∷ made_by 2 (Content Del) (codes "Bob") (Some (pos 1_714_979_290))
    ∷ made_by 3 (Row Ins) (codes "Cy & Co") None ∷ []

-- no selection but one by edits looks at the edits
abbrev none : List ℕ
none = []

row_all : chosen three none all ≡ 1 ∷ 2 ∷ 3 ∷ []
row_all = refl

-- in order, each once, and also numbers that there are not
row_numbers : chosen three none (numbers (One 7 ∷ One 2 ∷ One 0 ∷ One 2 ∷ [])) ≡ 0 ∷ 2 ∷ 7 ∷ []
row_numbers = refl

-- both ends of a range are in it
row_range : chosen three none (numbers (Range 2 3 ∷ [])) ≡ 2 ∷ 3 ∷ []
row_range = refl

row_range_of_one : chosen three none (numbers (Range 2 2 ∷ [])) ≡ 2 ∷ []
row_range_of_one = refl

row_range_among_numbers : chosen three none (numbers (One 3 ∷ Range 1 2 ∷ One 1 ∷ [])) ≡ 1 ∷ 2 ∷ 3 ∷ []
row_range_among_numbers = refl

-- of the numbers past the last one of the package, the first in the range is chosen
row_long_range : chosen three none (numbers (Range 0 4294967295 ∷ [])) ≡ 0 ∷ 1 ∷ 2 ∷ 3 ∷ 4 ∷ []
row_long_range = refl

row_range_past_the_last : chosen three none (numbers (Range 13 19 ∷ [])) ≡ 13 ∷ []
row_range_past_the_last = refl

row_range_in_the_wrong_order : chosen three none (numbers (Range 3 2 ∷ [])) ≡ []
row_range_in_the_wrong_order = refl

row_author : chosen three none (author (codes "Bob")) ≡ 2 ∷ []
row_author = refl

-- names are compared byte by byte
row_other_author : chosen three none (author (codes "bob")) ≡ []
row_other_author = refl

-- the end of a span is not in it, and no revision without a date is
row_span : chosen three none (span (pos 1_714_979_289) (pos 1_714_979_290)) ≡ 1 ∷ []
row_span = refl

row_whole_span : chosen three none (span (pos 0) (pos 253_402_300_799)) ≡ 1 ∷ 2 ∷ []
row_whole_span = refl

row_kind : chosen three none (kind (Content Ins)) ≡ 1 ∷ []
row_kind = refl

row_kind_of_rows : chosen three none (kind (Row Ins)) ≡ 3 ∷ []
row_kind_of_rows = refl

row_group : chosen three none (group groups.Content) ≡ 1 ∷ 2 ∷ []
row_group = refl

row_group_of_rows : chosen three none (group groups.Rows) ≡ 3 ∷ []
row_group_of_rows = refl

row_empty_group : chosen three none (group groups.Props) ≡ []
row_empty_group = refl

-- ---- by edits

-- the first two revisions are one edit, and the third is one of its own, which has the least number in it
abbrev two_edits : List ℕ
two_edits = 1 ∷ 1 ∷ 3 ∷ []

row_edit : chosen three two_edits (edits (One 1 ∷ [])) ≡ 1 ∷ 2 ∷ []
row_edit = refl

row_edit_of_one : chosen three two_edits (edits (One 3 ∷ [])) ≡ 3 ∷ []
row_edit_of_one = refl

-- where no edit has the number nothing is chosen, though a revision has it
row_no_edit : chosen three two_edits (edits (One 2 ∷ One 0 ∷ One 7 ∷ [])) ≡ []
row_no_edit = refl

-- each revision once, in the order of the numbers
row_edits : chosen three two_edits (edits (One 3 ∷ Range 1 2 ∷ One 1 ∷ [])) ≡ 1 ∷ 2 ∷ 3 ∷ []
row_edits = refl

-- a range past the last number chooses just the revisions that are there
row_long_range_of_edits : chosen three two_edits (edits (Range 2 4294967295 ∷ [])) ≡ 3 ∷ []
row_long_range_of_edits = refl

row_range_of_edits_in_the_wrong_order : chosen three two_edits (edits (Range 3 1 ∷ [])) ≡ []
row_range_of_edits_in_the_wrong_order = refl

-- where the edits aren't known none is chosen by them
row_edits_unknown : chosen three none (edits (Range 0 9 ∷ [])) ≡ []
row_edits_unknown = refl

-- the same of one revision
row_chooses_edit : (chooses (edits (One 1 ∷ [])) two_edits (made_by 2 (Content Del) (codes "Bob") None) ≡ true)
    × (chooses (edits (One 1 ∷ [])) two_edits (made_by 3 (Row Ins) (codes "Cy & Co") None) ≡ false)
row_chooses_edit = (refl, refl)
