use Rattle.std.proofs.Common.{ap, ◌∙◌}
use Rattle.redl_io.proofs.Puts.{so_far_goes_on, so_far_stops}
use Rattle.redl_shown.specs.Shown.{shown_from}
use Rattle.redl_shown.specs.Pieces.{piece_text}
use Rattle.redl_html.specs.Escaping.{escaped}
use Rattle.redl_html.proofs.EscapingLaws.{escaped-append}
use Rattle.redl_page_stories.proofs.shown.put_shown.Goals as goal

pub returns-in_err-put_step : goal.returns-in_err-put_step
returns-in_err-put_step g c =
    let step = c.in-Some.step in
    let text = piece_text step.piece in
    let left = shown_from step.here step.rest.now in
    so_far_stops (escaped text) (escaped left) (ap escaped c.in-Some.ensures.shown ∙ escaped-append text left)
    c.from_residual.ensures.1 c.loop-step.invariant c.in_err-put_step.ensures

pub loop-step-preserved : goal.loop-step-preserved
loop-step-preserved g c =
    let step = c.in-Some.step in
    let text = piece_text step.piece in
    let left = shown_from step.here step.rest.now in
    so_far_goes_on (escaped text) (escaped left) (ap escaped c.in-Some.ensures.shown ∙ escaped-append text left)
    c.loop-step.invariant c.in_ok-put_step.ensures
