use Rattle.std.proofs.Common.{map, sym, ap, ◌∙◌, refl}
use Rattle.redl_bare.specs.Units.{byte, in_marks}
use Rattle.redl_bare.specs.Inside.Views.{marks_view}
use Rattle.redl_bare.proofs.LineLaws.{units_by, units_begin_by, units_go_on, units_stop}
use Rattle.redl_bare.proofs.TextLaws.{clean_shown}
use Rattle.redl_shown.specs.Shown.{shown_from}
use Rattle.redl_shown.specs.Pieces.{piece_text}
use Rattle.redl_bare.proofs.FieldLaws.{piece_units}
use Rattle.redl_bare.proofs.texts.put_shown_texts.Goals as goal

pub returns-then-are_clean : goal.returns-then-are_clean
returns-then-are_clean g c =
    units_by (ap (λ b. in_marks (marks_view c.args.writer.now.marks) (map byte b)) (clean_shown c.args.bytes.now (sym c.are_clean.ensures ∙ c.if-are_clean.true)))
    c.put_characters.ensures

pub loop-step-init : goal.loop-step-init
loop-step-init g c =
    units_begin_by (ap (λ h. in_marks (marks_view c.args.writer.now.marks) (map byte (shown_from h c.args.bytes.now))) (sym c.start-here.ensures)) c.args.writer.now

pub returns-in_err-put_step : goal.returns-in_err-put_step
returns-in_err-put_step g c =
    let step = c.in-Some.step in
    let marks = marks_view c.args.writer.now.marks in
    units_stop (in_marks marks (map byte (piece_text step.piece))) (in_marks marks (map byte (shown_from step.here step.rest.now)))
    (piece_units marks (shown_from c.loop-step.here c.loop-step.left.now) (piece_text step.piece) (shown_from step.here step.rest.now) c.in-Some.ensures.shown)
    c.from_residual.ensures.1 c.loop-step.invariant
    (units_by (ap (λ m. in_marks (marks_view m) (map byte (piece_text step.piece))) (sym c.loop-step.invariant.after.marks)) c.in_err-put_step.ensures) refl

pub loop-step-preserved : goal.loop-step-preserved
loop-step-preserved g c =
    let step = c.in-Some.step in
    let marks = marks_view c.args.writer.now.marks in
    units_go_on (in_marks marks (map byte (piece_text step.piece))) (in_marks marks (map byte (shown_from step.here step.rest.now)))
    (piece_units marks (shown_from c.loop-step.here c.loop-step.left.now) (piece_text step.piece) (shown_from step.here step.rest.now) c.in-Some.ensures.shown)
    c.loop-step.invariant
    (units_by (ap (λ m. in_marks (marks_view m) (map byte (piece_text step.piece))) (sym c.loop-step.invariant.after.marks)) c.in_ok-put_step.ensures)
