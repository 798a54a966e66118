use Rattle.std.proofs.Common.{sym, ◌∙◌, ◌++◌, refl, ap}
use Rattle.redl_bare.proofs.TextLaws.{clean_escaped, escaped-step, plain_shorter}
use Rattle.redl_io.proofs.Puts.{so_far_goes_on, so_far_stops}
use Rattle.redl_reading.specs.Lists.{front, after}
use Rattle.redl_bare.specs.BareText.{byte_escaped, escaped}
use Rattle.redl_bare.specs.Inside.Escapes.{is_plain}
use Rattle.redl_bare.proofs.escape.put_escaped.Goals as goal

pub returns-then-are_clean : goal.returns-then-are_clean
returns-then-are_clean g c = rw (clean_escaped c.args.text.now (sym c.are_clean.ensures ∙ c.if-are_clean.true)) c.put_piece.ensures

pub returns-in_err-put_byte : goal.returns-in_err-put_byte
returns-in_err-put_byte g c =
    so_far_stops (byte_escaped c.in-Some.first.now) (escaped c.in-Some.rest.now) (ap escaped c.in-Some.ensures.cases.0) c.from_residual.ensures.1 c.loop-first.invariant c.in_err-put_byte.ensures

pub returns-in_err-left : goal.returns-in_err-left
returns-in_err-left g c =
    let b = c.in-Some.first.now in
    let bs = c.in-Some.rest.now in
    so_far_stops (front is_plain bs) (escaped (after is_plain bs)) refl c.from_residual-in_err-left.ensures.1
    (so_far_goes_on (byte_escaped b) (front is_plain bs ++ escaped (after is_plain bs)) (escaped-step c.loop-first.left.now b bs (after is_plain bs) c.in-Some.ensures.cases.0 refl)
    c.loop-first.invariant c.in_ok-put_byte.ensures)
    c.in_err-left.ensures.puts

pub loop-first-smaller : goal.loop-first-smaller
loop-first-smaller g c = plain_shorter c.loop-first.left.now c.in-Some.first.now c.in-Some.rest.now c.in_ok-left.left.now c.in-Some.ensures.cases.0 c.in_ok-left.ensures.rest

pub loop-first-preserved : goal.loop-first-preserved
loop-first-preserved g c =
    let b = c.in-Some.first.now in
    let bs = c.in-Some.rest.now in
    let left = c.in_ok-left.left.now in
    so_far_goes_on (front is_plain bs) (escaped left) refl
    (so_far_goes_on (byte_escaped b) (front is_plain bs ++ escaped left) (escaped-step c.loop-first.left.now b bs left c.in-Some.ensures.cases.0 c.in_ok-left.ensures.rest)
    c.loop-first.invariant c.in_ok-put_byte.ensures)
    c.in_ok-left.ensures.puts
