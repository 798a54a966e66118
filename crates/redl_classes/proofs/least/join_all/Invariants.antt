use Rattle.std.proofs.Common.{length, take}
use Rattle.redl_classes.proofs.JoinLaws.{Joins}
use Rattle.redl_classes.proofs.least.join_all.Given as goal

abbrev pub invariant-loop-pair : goal.invariant-loop-pair
invariant-loop-pair l = Joins (length l.fn.numbers) (take l.pair-index l.pairs) l.numbers
