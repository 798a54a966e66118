use Rattle.std.proofs.Common.{◌≡◌, None, sym, ap, ◌∙◌, arith}
use Rattle.redl_resolve.proofs.PassLaws.{rejected-later}
use Rattle.redl_resolve.specs.Inside.Changes.{former_of, item_rejected}
use Rattle.redl_tree.proofs.Model.Laws.{nodes_here}
use Rattle.redl_tree.specs.Decisions.Restored.{rejected as rejected_by}
use Rattle.redl_tree.specs.Model.View.{item_of}
use Rattle.redl_resolve.proofs.changes.rejected.Goals as goal

pub loop-kid-preserved : goal.loop-kid-preserved
loop-kid-preserved c =
    let says = c.args.says.now in
    let x = c.kid-item.result in
    let here = nodes_here c.args.kids.now c.loop-kid.kid-index x (omega arith) c.kid-item.is in
    let none : item_rejected says (item_of x) ≡ None = sym c.in_ok-former.ensures ∙ ap former_of c.in_default.is in
    sym (ap (rejected_by says) here ∙ rejected-later says (item_of x) _ none) ∙ c.loop-kid.invariant
