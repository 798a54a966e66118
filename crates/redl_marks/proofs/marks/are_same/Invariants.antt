use Rattle.std.proofs.Common.{◌≡◌, map, drop}
use Rattle.redl_marks.specs.Marks.{same_marks}
use Rattle.redl_marks.specs.Views.{mark_view}
use Rattle.redl_marks.proofs.marks.are_same.Given as goal

-- the answer is that of the marks that are left
abbrev pub invariant-loop-at : goal.invariant-loop-at
invariant-loop-at l = same_marks (drop l.at (map mark_view l.marks)) (drop l.at (map mark_view l.others)) ≡ same_marks (map mark_view l.marks) (map mark_view l.others)
