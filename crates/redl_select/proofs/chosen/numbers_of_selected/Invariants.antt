use Rattle.std.proofs.Common.{◌≡◌, take}
use Rattle.redl_select.specs.Selections.{numbers_from}
use Rattle.redl_kinds.specs.Views.{selection_of}
use Rattle.redl_select.proofs.chosen.numbers_of_selected.Given as goal

abbrev pub invariant-loop-place : goal.invariant-loop-place
invariant-loop-place l = l.numbers.items ≡ numbers_from (selection_of l.sel) l.edits 1 (take l.place l.index)
