use Rattle.std.proofs.Common.{true, false, refl, sym, ap, ◌∙◌, arith}
use Rattle.redl_leaves.proofs.MarkLaws.{step}
use Rattle.redl_leaves.proofs.MemberLaws.{member-in_front, no_idle_member}
use Rattle.redl_leaves.specs.Members.{item_member}
use Rattle.redl_tree.proofs.Model.Laws.{nodes_end, item_of-Plain}
use Rattle.redl_tree.specs.Leaves.Settings.{has_member, is_decided}
use Rattle.redl_tree.specs.Model.View.{item_of}
use Rattle.redl_leaves.proofs.setting.+decided.Goals as goal

pub has_decided-loop-kid-preserved : goal.has_decided-loop-kid-preserved
has_decided-loop-kid-preserved t c =
    let test = is_decided c.args.says.now in
    sym (step (has_member test) (item_member test) (member-in_front test) c.args.nodes.now c.loop-kid.kid-index c.kid-item.result false (omega arith) c.kid-item.is
    (sym c.is_decided_in.ensures ∙ c.if-is_decided_in.false))
    ∙ c.loop-kid.invariant

pub has_decided-returns-then-is_decided_in : goal.has_decided-returns-then-is_decided_in
has_decided-returns-then-is_decided_in t c =
    let test = is_decided c.args.says.now in
    sym (step (has_member test) (item_member test) (member-in_front test) c.args.nodes.now c.loop-kid.kid-index c.kid-item.result true (omega arith) c.kid-item.is
    (sym c.is_decided_in.ensures ∙ c.if-is_decided_in.true))
    ∙ c.loop-kid.invariant

pub has_decided-returns : goal.has_decided-returns
has_decided-returns t c =
    sym (ap (has_member (is_decided c.args.says.now)) (nodes_end c.args.nodes.now c.loop-kid.kid-index (omega arith))) ∙ c.loop-kid.invariant

-- idle elements are in no revision
pub is_decided_in-returns-in-Plain : goal.is_decided_in-returns-in-Plain
is_decided_in-returns-in-Plain t c =
    let test = is_decided c.args.says.now in
    sym (ap (λ x. item_member test (item_of x)) c.in-Plain.is ∙ ap (item_member test) (item_of-Plain _) ∙ no_idle_member test refl _)
