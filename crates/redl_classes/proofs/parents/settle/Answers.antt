use Rattle.redl_classes.proofs.ParentLaws.{settled, settles-more}
use Rattle.redl_classes.proofs.parents.settle.Goals as goal

pub loop-number-preserved : goal.loop-number-preserved
loop-number-preserved c =
    settles-more c.args.parents.now c.loop-number.parents c.loop-number.number c.loop-number.invariant c.requires c.loop-number-test.true c.loop-number.auto.parents

pub returns : goal.returns
returns c =
    settled c.args.parents.now c.loop-number.parents c.loop-number.number c.loop-number.invariant c.loop-number.auto.parents c.loop-number-test.false
