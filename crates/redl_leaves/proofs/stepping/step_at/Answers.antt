use Rattle.std.proofs.Common.{◌≡◌, ◌∷◌, sym, ap, subst, ◌∙◌}
use Rattle.redl_tree.specs.Leaves.States.{States}
use Rattle.redl_leaves.proofs.MendLaws.{mended-recut, numbers-tallied, numbers-recut}
use Rattle.redl_leaves.proofs.PutLaws.{mended-remade, tallied-remade}
use Rattle.redl_leaves.specs.Inside.Mends.{HasNumbers, recut, retallied}
use Rattle.redl_leaves.specs.Puts.{remade}
use Rattle.redl_leaves.specs.View.{states_of}
use Rattle.redl_leaves.proofs.stepping.step_at.Goals as goal

pub returns : goal.returns
returns c = λ parent above spot_is tallied made.
    let ancestors = parent ∷ above in
    let says = c.args.says.now in
    let way = c.args.way.now in
    let old = states_of c.args.slots.now in
    let put : states_of c.put_at.new.slots ≡ remade says way old = c.put_at.ensures made in
    let cut : states_of c.recut_at.new.slots ≡ recut says way (remade says way old) = c.recut_at.ensures ∙ ap (recut says way) put in
    let numbers = numbers-tallied ancestors (remade says way old) (tallied-remade says ancestors way old tallied) in
    let has : HasNumbers ancestors (states_of c.recut_at.new.slots) =
    subst (λ (s : States). HasNumbers ancestors s) (sym cut) (numbers-recut says ancestors way (remade says way old) numbers) in
    let mends = c.recount_along.ensures parent above spot_is has in
    mends.states ∙ ap (retallied ancestors way) cut ∙ mended-recut says ancestors way (remade says way old) numbers ∙ mended-remade says ancestors way old
