use Rattle.std.proofs.Common.{◌≡◌, replicate}
use Rattle.redl_commented.specs.On.{no_remarks}
use Rattle.redl_commented.proofs.on.nothing_on.Given as goal

abbrev pub invariant-loop : goal.invariant-loop
invariant-loop l = l.on.items ≡ replicate l.counter no_remarks
