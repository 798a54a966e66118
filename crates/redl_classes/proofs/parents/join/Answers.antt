use Rattle.std.proofs.Common.{arith}
use Rattle.redl_classes.proofs.ParentLaws.{joined-less, joined-more}
use Rattle.redl_classes.proofs.parents.join.Goals as goal

pub returns-then-one-two-clause-labels : goal.returns-then-one-two-clause-labels
returns-then-one-two-clause-labels c labels known =
    let first = c.find-one.ensures.labels labels known in
    joined-less c.find-two.new.parents labels c.args.pair c.find-one.result c.find-two.result c.find-two.ensures.forest
    (c.find-two.ensures.labels labels first) (omega (arith, c.find-one.ensures.bound, c.find-one.auto.parents, c.find-two.auto.parents)) c.find-two.ensures.bound
    (c.find-one.ensures.label labels known) (c.find-one.ensures.end labels known)
    (c.find-two.ensures.label labels first) (c.find-two.ensures.end labels first) c.if-one-two.true

pub returns-else-one-two-clause-labels : goal.returns-else-one-two-clause-labels
returns-else-one-two-clause-labels c labels known =
    let first = c.find-one.ensures.labels labels known in
    joined-more c.find-two.new.parents labels c.args.pair c.find-one.result c.find-two.result c.find-two.ensures.forest
    (c.find-two.ensures.labels labels first) (omega (arith, c.find-one.ensures.bound, c.find-one.auto.parents, c.find-two.auto.parents)) c.find-two.ensures.bound
    (c.find-one.ensures.label labels known) (c.find-one.ensures.end labels known)
    (c.find-two.ensures.label labels first) (c.find-two.ensures.end labels first) c.if-one-two.false
