use Rattle.redl_tree.specs.Model.View.{tag_of, kids_of}
use Rattle.redl_editor.proofs.BegunLaws.{adds-one}
use Rattle.redl_editor.proofs.taking.take_root.Goals as goal

pub returns-clause-stories : goal.returns-clause-stories
returns-clause-stories c = λ few.
    adds-one (record { tag = tag_of c.args.root.now; kids = kids_of c.args.root.now }) c.args.stories.now.items c.push.new.self.items
    (record { spot = c.in_root-spot.result; slots = c.in_ok-slots.slots }) c.in_ok-push.ensures.items
    (record { spot = c.in_root-spot.ensures; states = λ revisions. c.in_ok-slots.ensures.states few revisions })
