use Rattle.redl_io.proofs.Puts.{so_far_goes_on, so_far_stops}
use Rattle.redl_html.specs.Escaping.{byte_escaped, escaped, is_plain}
use Rattle.redl_html.proofs.EscapingLaws.{escaped-next, escaped-plain, shorter}
use Rattle.redl_reading.specs.Lists.{front, after}
use Rattle.std.proofs.Common.{ap, ◌∙◌, sym, ◌++◌}
use Rattle.redl_html.proofs.escape.put_escaped.Goals as goal

pub returns-in_err-put_byte : goal.returns-in_err-put_byte
returns-in_err-put_byte g c =
    so_far_stops (byte_escaped c.in-Some.first.now) (escaped c.in-Some.rest.now)
    (escaped-next c.loop-first.left.now c.in-Some.first.now c.in-Some.rest.now c.in-Some.ensures.cases.0)
    c.from_residual.ensures.1 c.loop-first.invariant c.in_err-put_byte.ensures

pub returns-in_err-left : goal.returns-in_err-left
returns-in_err-left g c =
    let b = c.in-Some.first.now in
    let bs = c.in-Some.rest.now in
    so_far_stops (front is_plain bs) (escaped (after is_plain bs)) (escaped-plain bs) c.from_residual-in_err-left.ensures.1
    (so_far_goes_on (byte_escaped b) (escaped bs) (escaped-next c.loop-first.left.now b bs c.in-Some.ensures.cases.0) c.loop-first.invariant c.in_ok-put_byte.ensures)
    c.in_err-left.ensures.puts

pub loop-first-smaller : goal.loop-first-smaller
loop-first-smaller g c =
    shorter c.loop-first.left.now c.in-Some.first.now c.in-Some.rest.now c.in_ok-left.left.now c.in-Some.ensures.cases.0 c.in_ok-left.ensures.rest

pub loop-first-preserved : goal.loop-first-preserved
loop-first-preserved g c =
    let b = c.in-Some.first.now in
    let bs = c.in-Some.rest.now in
    so_far_goes_on (front is_plain bs) (escaped c.in_ok-left.left.now)
    (escaped-plain bs ∙ ap (λ rest. front is_plain bs ++ escaped rest) (sym c.in_ok-left.ensures.rest))
    (so_far_goes_on (byte_escaped b) (escaped bs) (escaped-next c.loop-first.left.now b bs c.in-Some.ensures.cases.0) c.loop-first.invariant c.in_ok-put_byte.ensures)
    c.in_ok-left.ensures.puts
