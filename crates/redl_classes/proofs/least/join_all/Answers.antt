use Rattle.std.proofs.Common.{length, subst, sym}
use Rattle.redl_classes.specs.Least.{AreLeast, least_numbers_of}
use Rattle.redl_classes.proofs.JoinLaws.{Joins-all, Joins-alone, Joins-more}
use Rattle.redl_classes.proofs.TogetherLaws.{least-after}
use Rattle.redl_classes.proofs.least.join_all.Goals as goal

pub loop-pair-init : goal.loop-pair-init
loop-pair-init c = Joins-alone c.args.numbers.now c.requires.alone

pub loop-pair-preserved : goal.loop-pair-preserved
loop-pair-preserved c =
    Joins-more (length c.args.numbers.now) c.args.pairs.now c.loop-pair.pair-index (record { one = 0; two = 0 }) c.loop-pair.numbers c.join.new.parents
    c.loop-pair.invariant c.loop-pair-test.true c.join.ensures.forest c.join.auto.parents c.join.ensures.labels

pub returns-clause-value : goal.returns-clause-value
returns-clause-value c =
    c.settle.ensures (least_numbers_of (length c.args.numbers.now) c.args.pairs.now)
    (Joins-all (length c.args.numbers.now) c.args.pairs.now c.loop-pair.pair-index c.loop-pair.numbers c.loop-pair.invariant c.loop-pair-test.false)

pub returns-clause-least : goal.returns-clause-least
returns-clause-least c =
    subst (AreLeast c.args.pairs.now)
    (sym (c.settle.ensures (least_numbers_of (length c.args.numbers.now) c.args.pairs.now)
    (Joins-all (length c.args.numbers.now) c.args.pairs.now c.loop-pair.pair-index c.loop-pair.numbers c.loop-pair.invariant c.loop-pair-test.false)))
    (least-after (length c.args.numbers.now) c.args.pairs.now c.requires.bounds)
