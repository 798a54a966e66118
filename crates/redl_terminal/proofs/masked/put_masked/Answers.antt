use Rattle.redl_io.proofs.Puts.{so_far_goes_on, so_far_stops}
use Rattle.redl_terminal.specs.Masks.{masked}
use Rattle.redl_terminal.proofs.masked.put_masked.Goals as goal

pub returns-in_err-put_piece : goal.returns-in_err-put_piece
returns-in_err-put_piece g c =
    let step = c.in-Some.step in
    so_far_stops step.piece.now (masked c.args.extent step.rest.now) c.in-Some.ensures.masked
    c.from_residual.ensures.1 c.loop-step.invariant c.in_err-put_piece.ensures

pub loop-step-preserved : goal.loop-step-preserved
loop-step-preserved g c =
    let step = c.in-Some.step in
    so_far_goes_on step.piece.now (masked c.args.extent step.rest.now) c.in-Some.ensures.masked
    c.loop-step.invariant c.in_ok-put_piece.ensures
