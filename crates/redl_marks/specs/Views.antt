-- The code's stamps and marks as plain data.
use Rattle.std.specs.Prelude.{ℕ, List, map, insert, remove, Option, Some, None}
use Rattle.redl_marks.specs.Marks.{Stamp, Mark, Marks}
use Rattle.redl_marks.specs.declared.mark.Stamp as code_stamp
use Rattle.redl_marks.specs.declared.mark.Mark as code_mark
use Rattle.redl_marks.specs.declared.marks.Marks as code_marks

abbrev pub stamp_view : code_stamp.Stamp → Stamp
stamp_view stamp = record { author = stamp.author.now; minute = stamp.minute.now }

abbrev pub mark_view : code_mark.Mark → Mark
mark_view mark = record { sign = mark.sign; stamp = stamp_view mark.stamp }

abbrev pub marks_view : code_marks.Marks → Marks
marks_view marks = map mark_view marks.list.items

-- a list into which an element was put at a place, if it was
abbrev pub with_at : {A : Type 0} → Option ℕ → List A → A → List A
with_at None xs x = xs
with_at (Some at) xs x = insert xs at x

-- and one from which the element at a place was taken
abbrev pub without_at : {A : Type 0} → Option ℕ → List A → List A
without_at None xs = xs
without_at (Some at) xs = remove xs at
