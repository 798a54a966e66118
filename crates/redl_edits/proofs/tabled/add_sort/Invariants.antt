use Rattle.std.proofs.Common.{◌≡◌, ◌++◌, drop}
use Rattle.redl_edits.specs.Tabled.{pairs_of_sort}
use Rattle.redl_edits.proofs.tabled.add_sort.Given as goal

-- what was found so far, and then what is among the revisions that are left
abbrev pub invariant-loop-number : goal.invariant-loop-number
invariant-loop-number l = l.pairs.items ++ pairs_of_sort l.index l.sort l.last (drop l.number-index l.table) ≡ l.initial.pairs.items ++ pairs_of_sort l.index l.sort l.initial.last l.table
