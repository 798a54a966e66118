use Rattle.redl_classes.proofs.ParentLaws.{halved}
use Rattle.redl_classes.proofs.parents.find.Goals as goal

pub loop-parents-preserved : goal.loop-parents-preserved
loop-parents-preserved c =
    halved c.args.parents.now c.args.number c.loop-parents.parents c.loop-parents.at c.loop-parents.invariant c.loop-parents-test.true
