-- What is no former property is passed over.
use Rattle.std.proofs.Common.{sym, ap, ◌∙◌, arith}
use Rattle.redl_resolve.proofs.PassLaws.{former-later}
use Rattle.redl_tree.proofs.Model.Laws.{nodes_here}
use Rattle.redl_tree.specs.Decisions.Restored.{former_kids}
use Rattle.redl_tree.specs.Model.View.{item_of}
use Rattle.redl_tree.specs.Roles.Places.{props_name}
use Rattle.redl_changed.proofs.changed.former_leaves.Goals as goal

pub loop-kid-preserved : goal.loop-kid-preserved
loop-kid-preserved c =
    let name = props_name c.args.what in
    let x = c.kid-item.result in
    let here = nodes_here c.args.kids.now c.loop-kid.kid-index x (omega arith) c.kid-item.is in
    sym (ap (former_kids name) here ∙ former-later c.args.what (item_of x) _ c.in_default.ensures) ∙ c.loop-kid.invariant
