use Rattle.std.proofs.Common.{◌≡◌, drop}
use Rattle.redl_commented.specs.On.{joined}
use Rattle.redl_commented.proofs.remarks.join.Given as goal

-- with those that are left it comes to the same
abbrev pub invariant-loop-ranged : goal.invariant-loop-ranged
invariant-loop-ranged l = joined l.kept.items (drop l.ranged-index l.more) ≡ joined l.initial.kept.items l.more
