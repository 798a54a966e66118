use Rattle.std.proofs.Common.{◌≡◌, ◌≤◌, ◌∙◌, None, ap, sym, arith, length, slice_get}
use Rattle.std.proofs.lemmas.Option.{slice_get_past}
use Rattle.redl_page_numbers.specs.Levels.{num_levels}
use Rattle.redl_page_numbers.proofs.LevelLaws.{adds_nothing, no_num}
use Rattle.redl_page_numbers.proofs.levels.add_num.Goals as goal

pub returns-in-None : goal.returns-in-None
returns-in-None c =
    let tables = c.args.tables.now in
    let past : length c.rows.result.now ≤ c.args.place = omega (arith, c.in-None.ensures.lookup) in
    let none : slice_get tables.nums c.args.place ≡ None = ap (λ rows. slice_get rows c.args.place) (sym c.rows.ensures) ∙ slice_get_past c.rows.result.now c.args.place past in
    adds_nothing c.args.rows.now.items (num_levels tables c.args.used.now c.args.place) (no_num tables c.args.used.now c.args.place none)
