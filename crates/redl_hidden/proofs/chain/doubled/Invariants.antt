use Rattle.std.proofs.Common.{◌≡◌, map, take}
use Rattle.redl_hidden.specs.Inside.Chains.{joined}
use Rattle.redl_hidden.proofs.chain.doubled.Given as goal

abbrev pub invariant-loop-link : goal.invariant-loop-link
invariant-loop-link l = l.more.items ≡ map (joined l.links) (take l.link-index l.links)
