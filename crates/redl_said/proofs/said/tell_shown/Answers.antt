-- What a step shows is heard before what the rest shows.
use Rattle.std.proofs.Common.{◌∙◌, sym, ap}
use Rattle.redl_shown.specs.Shown.{shown_from}
use Rattle.redl_shown.specs.Pieces.{piece_text}
use Rattle.redl_said.proofs.SaidLaws.{shown-all-plain}
use Rattle.redl_said.proofs.said.tell_shown.Goals as goal

pub returns-then-is_all_plain : goal.returns-then-is_all_plain
returns-then-is_all_plain g c = rw (shown-all-plain c.args.bytes.now (sym c.is_all_plain.ensures ∙ c.if-is_all_plain.true)) c.hear.ensures

pub loop-step-preserved : goal.loop-step-preserved
loop-step-preserved g c =
    let step = c.in-Some.step in
    let ear = c.loop-step.ear in
    ap (λ e. g.E.Ear.heard e (shown_from step.here step.rest.now)) c.in_ok-tell_piece.ensures
    ∙ g.E.Ear.heard_more ear (piece_text step.piece) (shown_from step.here step.rest.now)
    ∙ ap (g.E.Ear.heard ear) (sym c.in-Some.ensures.shown) ∙ c.loop-step.invariant
