use Rattle.std.proofs.Common.{sym, ◌∙◌}
use Rattle.redl_bare.proofs.TextLaws.{clean_escaped, clean_shown, escaped-piece}
use Rattle.redl_io.proofs.Puts.{so_far_goes_on, so_far_stops}
use Rattle.redl_shown.specs.Shown.{shown_from}
use Rattle.redl_shown.specs.Pieces.{piece_text}
use Rattle.redl_bare.specs.BareText.{escaped}
use Rattle.redl_bare.proofs.escape.put_shown.Goals as goal

pub returns-then-are_clean : goal.returns-then-are_clean
returns-then-are_clean g c =
    let b = c.args.bytes.now in
    let clean = sym c.are_clean.ensures ∙ c.if-are_clean.true in
    rw (clean_shown b clean, clean_escaped b clean) c.put_piece.ensures

pub returns-in_err-put_step : goal.returns-in_err-put_step
returns-in_err-put_step g c =
    let step = c.in-Some.step in
    so_far_stops (escaped (piece_text step.piece)) (escaped (shown_from step.here step.rest.now))
    (escaped-piece (shown_from c.loop-step.here c.loop-step.left.now) (piece_text step.piece) (shown_from step.here step.rest.now) c.in-Some.ensures.shown)
    c.from_residual.ensures.1 c.loop-step.invariant c.in_err-put_step.ensures

pub loop-step-preserved : goal.loop-step-preserved
loop-step-preserved g c =
    let step = c.in-Some.step in
    so_far_goes_on (escaped (piece_text step.piece)) (escaped (shown_from step.here step.rest.now))
    (escaped-piece (shown_from c.loop-step.here c.loop-step.left.now) (piece_text step.piece) (shown_from step.here step.rest.now) c.in-Some.ensures.shown)
    c.loop-step.invariant c.in_ok-put_step.ensures
