-- The steps of the walk over the text are those of the walk over its nodes.
use Rattle.std.proofs.Common.{List, ap, sym, ◌∙◌}
use Rattle.std.proofs.lemmas.Result.{on_ok_weaker}
use Rattle.redl_tree.specs.Model.IdleTexts.{idle_nodes}
use Rattle.redl_spans.specs.Inside.Idle.{idle_steps}
use Rattle.redl_spans.specs.Units.{Step}
use Rattle.redl_spans.specs.Walks.{stepped}
use Rattle.redl_spans.proofs.IdleLaws.{shown_steps, walked_kept}
use Rattle.redl_spans.proofs.StepLaws.{same_steps}
use Rattle.redl_spans.proofs.idle.walk_plain.Goals as goal

pub returns : goal.returns
returns c =
    let in_text = c.args.in_text in
    let text = c.args.plain.now in
    on_ok_weaker c.show.result (λ n.
    n.taken
    ∙ ap (λ (steps : List Step). stepped steps c.args.walk.now) (same_steps n.found (idle_steps in_text (idle_nodes text)) (sym n.is ∙ shown_steps in_text text))
    ∙ sym (walked_kept in_text text c.args.walk.now)) c.show.ensures
