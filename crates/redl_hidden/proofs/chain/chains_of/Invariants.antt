use Rattle.std.proofs.Common.{◌≡◌}
use Rattle.redl_hidden.specs.Inside.Chains.{first_links, rounds}
use Rattle.redl_hidden.proofs.chain.chains_of.Given as goal

abbrev pub invariant-loop : goal.invariant-loop
invariant-loop l = l.links.items ≡ rounds l.counter (first_links l.styles)
