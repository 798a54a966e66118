use Rattle.std.proofs.Common.{sym, ap, ◌∙◌, arith}
use Rattle.redl_resolve.proofs.PassLaws.{none-left}
use Rattle.redl_tree.proofs.Model.Held.{closed_is_bare}
use Rattle.redl_tree.specs.Model.View.{nodes_of}
use Rattle.redl_resolve.proofs.stories.PassingStoryChangeSteps.change.Goals as goal

pub return_kids-requires : goal.return_kids-requires
return_kids-requires g c = λ closed.
    let bare = closed_is_bare c.args.root.now (ap (λ tag. tag.close) (sym c.take_kids-kids.ensures.tag) ∙ closed) in
    none-left (nodes_of c.take_kids-kids.result.items) (nodes_of c.in_ok-passed.passed.items) (c.take_kids-kids.ensures.kids ∙ bare)
    (omega (arith, c.pass_story.ensures.entered, c.in_ok-passed.ensures.made))
