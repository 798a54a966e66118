use Rattle.std.proofs.Common.{◌≡◌, ◌<◌, ◌^◌, ◌∷◌, [], replicate, sym, ap, ◌∙◌, subst, arith}
use Rattle.redl_laws.proofs.Leaves.Fresh.{fresh-story}
use Rattle.redl_tree.specs.Leaves.Containers.{opens}
use Rattle.redl_tree.specs.Leaves.Shown.{AreStatesOf}
use Rattle.redl_tree.specs.Leaves.Slots.{slots_in}
use Rattle.redl_tree.specs.Leaves.States.{States, fresh_states}
use Rattle.redl_tree.specs.Model.Count.{count}
use Rattle.redl_tree.specs.Model.View.{Element, nodes_of, tag_of, kids_of}
use Rattle.redl_tree.specs.declared.kinds.Say.TheVariants.{Keep}
use Rattle.redl_leaves.specs.View.{states_of}
use Rattle.redl_leaves.proofs.story.take_story.Goals as goal

pub returns-clause-states : goal.returns-clause-states
returns-clause-states c = λ few revisions.
    let tag = tag_of c.args.root.now in
    let kids = kids_of c.args.root.now in
    let story : Element = record { tag = tag; kids = kids } in
    let fewer : count (nodes_of c.take_kids-kids.result.items) < 2 ^ 32 = omega (arith, few, ap count c.take_kids-kids.ensures.kids) in
    let slots : states_of c.in_ok-slots.slots.items ≡ fresh_states (tag ∷ []) (slots_in opens (tag ∷ []) kids) =
    c.in_ok-slots.ensures tag [] c.in_root-spot.ensures fewer ∙ ap (λ ns. fresh_states (tag ∷ []) (slots_in opens (tag ∷ []) ns)) c.take_kids-kids.ensures.kids in
    subst (λ (states : States). AreStatesOf opens (replicate revisions Keep) story states) (sym slots) (fresh-story opens revisions story)
