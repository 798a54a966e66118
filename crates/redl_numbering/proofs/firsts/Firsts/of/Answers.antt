-- Row by row.
use Rattle.std.proofs.Common.{◌<◌, ◌≤◌, ◌∙◌, ap, sym, arith, length}
use Rattle.redl_lists.specs.Tables.{is_text}
use Rattle.redl_numbering.specs.Known.{place_in, pushed}
use Rattle.redl_numbering.proofs.PlaceLaws.{place-more, place-all}
use Rattle.redl_numbering.proofs.firsts.Firsts.of.Goals as goal

pub loop-place-preserved : goal.loop-place-preserved
loop-place-preserved g c = λ name.
    let rows = c.args.rows.now in
    let i = c.loop-place.place in
    let so_far = place_in c.loop-place.firsts name in
    let within : i < length rows = omega arith in
    place-more (λ row. is_text name (g.N.Name.name row)) rows i c.index-rows-place.result so_far (place_in c.add.new.self name) within c.index-rows-place.is
    (c.in_ok-add.ensures name ∙ ap (λ own. pushed own i name so_far) c.of.ensures)
    ∙ c.loop-place.invariant name

pub returns : goal.returns
returns g c = λ name.
    let rows = c.args.rows.now in
    let i = c.loop-place.place in
    let past : length rows ≤ i = omega arith in
    sym (place-all (λ row. is_text name (g.N.Name.name row)) rows i (place_in c.loop-place.firsts name) past) ∙ c.loop-place.invariant name
