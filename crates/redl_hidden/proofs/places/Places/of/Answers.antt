-- Style by style.
use Rattle.std.proofs.Common.{◌<◌, ◌≤◌, ◌∙◌, ap, sym, arith, length}
use Rattle.redl_hidden.specs.Styles.{has_id}
use Rattle.redl_hidden.specs.Inside.Known.{place_in, pushed}
use Rattle.redl_hidden.proofs.ChainLaws.{place-more, place-all}
use Rattle.redl_hidden.proofs.places.Places.of.Goals as goal

pub loop-place-preserved : goal.loop-place-preserved
loop-place-preserved c = λ id.
    let styles = c.args.styles.now in
    let i = c.loop-place.place in
    let so_far = place_in c.loop-place.places id in
    let within : i < length styles = omega arith in
    place-more (has_id id) styles i c.index-styles-place.result so_far (place_in c.add.new.self id) within c.index-styles-place.is
    (c.in_ok-add.ensures id ∙ ap (λ own. pushed own i id so_far) c.id.ensures)
    ∙ c.loop-place.invariant id

pub returns : goal.returns
returns c = λ id.
    let styles = c.args.styles.now in
    let i = c.loop-place.place in
    let past : length styles ≤ i = omega arith in
    sym (place-all (has_id id) styles i (place_in c.loop-place.places id) past) ∙ c.loop-place.invariant id
