use Rattle.std.proofs.Common.{sym, ap, ◌∙◌}
use Rattle.std.specs.List.{last_or}
use Rattle.redl_shown.specs.Shown.{shown_from}
use Rattle.redl_shown.specs.Pieces.{piece_text}
use Rattle.redl_marked.proofs.LastLaws.{last_or-append}
use Rattle.redl_marked.proofs.last.last_shown.Goals as goal

pub loop-step-preserved : goal.loop-step-preserved
loop-step-preserved c =
    let step = c.in-Some.step in
    let rest = shown_from step.here step.rest.now in
    ap (λ last. last_or last rest) c.last_of_piece-last.ensures
    ∙ sym (last_or-append c.loop-step.last (piece_text step.piece) rest)
    ∙ ap (last_or c.loop-step.last) (sym c.in-Some.ensures.shown) ∙ c.loop-step.invariant
