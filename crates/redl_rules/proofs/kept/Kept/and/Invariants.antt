use Rattle.std.proofs.Common.{◌≡◌}
use Rattle.redl_rules.proofs.KeptLaws.{each_and_below}
use Rattle.redl_rules.proofs.kept.Kept.and.Given as goal

abbrev pub invariant-loop-i : goal.invariant-loop-i
invariant-loop-i l = l.rules ≡ each_and_below l.i l.fn.self.rules l.fn.other.rules
