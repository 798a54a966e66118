use Rattle.std.proofs.Common.{◌≡◌, None, sym, ap, ◌∙◌, arith}
use Rattle.redl_resolve.proofs.PassLaws.{former-later}
use Rattle.redl_resolve.specs.Inside.Changes.{copies_of, item_former}
use Rattle.redl_tree.proofs.Model.Laws.{nodes_here}
use Rattle.redl_tree.specs.Decisions.Restored.{former_kids}
use Rattle.redl_tree.specs.Model.View.{item_of}
use Rattle.redl_tree.specs.Roles.Places.{props_name}
use Rattle.redl_resolve.proofs.changes.copy_former.Goals as goal

pub loop-kid-preserved : goal.loop-kid-preserved
loop-kid-preserved c =
    let name = props_name c.args.prop in
    let x = c.kid-item.result in
    let here = nodes_here c.args.kids.now c.loop-kid.kid-index x (omega arith) c.kid-item.is in
    let none : item_former name (item_of x) ≡ None = sym c.in_ok-copies.ensures ∙ ap copies_of c.in_default.is in
    sym (ap (former_kids name) here ∙ former-later c.args.prop (item_of x) _ none) ∙ c.loop-kid.invariant
