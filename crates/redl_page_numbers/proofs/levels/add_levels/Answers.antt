use Rattle.std.proofs.Common.{◌≡◌, ◌≤◌, ◌∙◌, Some, None, ap, sym, arith, length, slice_get}
use Rattle.std.proofs.lemmas.Option.{slice_get_past}
use Rattle.redl_numbering.specs.Nums.{list_place}
use Rattle.redl_page_numbers.specs.Levels.{levels_at}
use Rattle.redl_page_numbers.proofs.LevelLaws.{adds_nothing, no_list}
use Rattle.redl_page_numbers.proofs.levels.add_levels.Goals as goal

pub returns-in-None : goal.returns-in-None
returns-in-None c =
    let tables = c.args.tables.now in
    let num = c.args.num.now in
    let at = c.in-Some.at in
    let there : list_place tables num ≡ Some at = ap (λ t. list_place t num) (sym c.requires.same) ∙ sym c.in-Some.ensures in
    let past : length c.rows.result.now ≤ at = omega (arith, c.in-None.ensures.lookup) in
    let none : slice_get tables.lists at ≡ None = ap (λ rows. slice_get rows at) (sym c.rows.ensures) ∙ slice_get_past c.rows.result.now at past in
    adds_nothing c.args.rows.now.items (levels_at tables c.args.place num (list_place tables num)) (no_list tables c.args.place num at there none)
