use Rattle.std.proofs.Common.{◌≡◌, map, take}
use Rattle.redl_commented.specs.On.{finish_of}
use Rattle.redl_commented.proofs.ends.ends_of.Given as goal

abbrev pub invariant-loop-ranged : goal.invariant-loop-ranged
invariant-loop-ranged l = l.ends.items ≡ map finish_of (take l.ranged-index l.all)
