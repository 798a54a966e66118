use Rattle.std.proofs.Common.{[], map, sym, subst}
use Rattle.redl_laws.proofs.Leaves.Ways.{story-set}
use Rattle.redl_tree.specs.Leaves.Containers.{opens}
use Rattle.redl_tree.specs.Leaves.Shown.{AreStatesOf}
use Rattle.redl_tree.specs.Leaves.States.{States}
use Rattle.redl_leaves.specs.Steps.{way_of}
use Rattle.redl_leaves.specs.View.{states_of}
use Rattle.redl_leaves.proofs.story.set_story.Goals as goal

pub returns : goal.returns
returns c = λ story spot_is is_set before can made of.
    let says = c.args.says.now in
    subst (λ (states : States). AreStatesOf opens says story states) (sym (c.step_each.ensures story.tag [] spot_is of.current.tallied made))
    (story-set opens is_set before says can.same story (map way_of c.args.all.items) (states_of c.args.slots.now) can.unheld can.ways can.covers of)
