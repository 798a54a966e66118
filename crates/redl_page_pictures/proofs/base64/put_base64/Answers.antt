use Rattle.std.proofs.Common.{[], ◌∷◌, filter, refl, if◌then◌else◌}
use Rattle.redl_io.proofs.Puts.{so_far_goes_on, so_far_stops}
use Rattle.redl_html.specs.Escaping.{escaped}
use Rattle.redl_reading.specs.Lists.{front, after}
use Rattle.redl_page_pictures.specs.List.{is_base64}
use Rattle.redl_page_pictures.proofs.ListLaws.{kept-next, kept-run, shorter}
use Rattle.redl_page_pictures.proofs.base64.put_base64.Goals as goal

pub returns-in_err-put_first : goal.returns-in_err-put_first
returns-in_err-put_first g c =
    let b = c.in-Some.first.now in
    let bs = c.in-Some.rest.now in
    so_far_stops (escaped (if is_base64 b then b ∷ [] else [])) (escaped (filter is_base64 bs)) (kept-next c.loop-first.left.now b bs c.in-Some.ensures.cases.0)
    c.from_residual.ensures.1 c.loop-first.invariant c.in_err-put_first.ensures

pub returns-in_err-left : goal.returns-in_err-left
returns-in_err-left g c =
    let b = c.in-Some.first.now in
    let bs = c.in-Some.rest.now in
    so_far_stops (escaped (front is_base64 bs)) (escaped (filter is_base64 (after is_base64 bs))) (kept-run bs (after is_base64 bs) refl) c.from_residual-in_err-left.ensures.1
    (so_far_goes_on (escaped (if is_base64 b then b ∷ [] else [])) (escaped (filter is_base64 bs)) (kept-next c.loop-first.left.now b bs c.in-Some.ensures.cases.0)
    c.loop-first.invariant c.in_ok-put_first.ensures)
    c.in_err-left.ensures.puts

pub loop-first-smaller : goal.loop-first-smaller
loop-first-smaller g c =
    shorter c.loop-first.left.now c.in-Some.first.now c.in-Some.rest.now c.in_ok-left.left.now c.in-Some.ensures.cases.0 c.in_ok-left.ensures.rest

pub loop-first-preserved : goal.loop-first-preserved
loop-first-preserved g c =
    let b = c.in-Some.first.now in
    let bs = c.in-Some.rest.now in
    so_far_goes_on (escaped (front is_base64 bs)) (escaped (filter is_base64 c.in_ok-left.left.now)) (kept-run bs c.in_ok-left.left.now c.in_ok-left.ensures.rest)
    (so_far_goes_on (escaped (if is_base64 b then b ∷ [] else [])) (escaped (filter is_base64 bs)) (kept-next c.loop-first.left.now b bs c.in-Some.ensures.cases.0)
    c.loop-first.invariant c.in_ok-put_first.ensures)
    c.in_ok-left.ensures.puts
