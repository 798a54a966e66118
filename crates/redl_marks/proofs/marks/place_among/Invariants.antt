use Rattle.std.proofs.Common.{map}
use Rattle.redl_marks.specs.Views.{mark_view}
use Rattle.redl_marks.proofs.MarkLaws.{IsPast}
use Rattle.redl_marks.proofs.marks.place_among.Given as goal

-- the marks so far come before this one
abbrev pub invariant-loop-at : goal.invariant-loop-at
invariant-loop-at l = IsPast (map mark_view l.marks) (mark_view l.mark) l.at
