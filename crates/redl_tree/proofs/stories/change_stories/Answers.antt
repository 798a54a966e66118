use Rattle.std.proofs.Common.{[], refl, ap, ◌∙◌}
use Rattle.std.proofs.lemmas.Result.{IfOk-weaker}
use Rattle.redl_tree.specs.Decisions.Packages.{stories}
use Rattle.redl_tree.specs.Model.View.{nodes_of}
use Rattle.redl_tree.proofs.Decisions.StoryLaws.{stories-changed}
use Rattle.redl_tree.proofs.stories.change_stories.Goals as goal

pub returns-clause-stories : goal.returns-clause-stories
returns-clause-stories g c =
    let given = g.C.StoryChange.given c.args.change.now c.args.state.now in
    IfOk-weaker c.change_among.result _ _ (λ _ changed. ap stories (changed [] refl) ∙ stories-changed g.C.StoryChange.rule given [] (nodes_of c.args.nodes.now)) c.change_among.ensures.nodes
