use Rattle.redl_kinds.specs.Selections.{numbers}
use Rattle.redl_kinds.specs.Views.{selection_of}
use Rattle.redl_select.proofs.ChosenLaws.{ascending_ok, meant_ascending, chosen_ok, unlisted_ok, not_listed}
use Rattle.redl_select.proofs.chosen.choose.Goals as goal

pub returns-in-Numbers-clause-ascending : goal.returns-in-Numbers-clause-ascending
returns-in-Numbers-clause-ascending c = ascending_ok c.in_order.result c.in_order.ensures.ascending

pub returns-in-Numbers-clause-chosen : goal.returns-in-Numbers-clause-chosen
returns-in-Numbers-clause-chosen c =
    rw c.in-Numbers.is (chosen_ok c.in_order.result c.args.index.now (numbers c.in-Numbers.listed.items) c.args.edits.now (rw (c.deref.ensures.value, c.count.ensures) at c.in_order.ensures.value))

pub returns-in_default : goal.returns-in_default
returns-in_default c =
    let r = c.numbers_of_selected.result in
    let rs = c.args.index.now in
    let s = selection_of c.args.sel.now in
    let es = c.args.edits.now in
    let value = unlisted_ok r rs s es (not_listed c.args.sel.now c.in_default.not-Numbers) c.numbers_of_selected.ensures in
    record { value = value; ascending = meant_ascending r s es rs c.numbers_of_selected.ensures; chosen = chosen_ok r rs s es value }
