use Rattle.std.proofs.Common.{◌≡◌, map, take}
use Rattle.redl_hidden.specs.Inside.Chains.{first_link}
use Rattle.redl_hidden.proofs.chain.first_links.Given as goal

abbrev pub invariant-loop-style : goal.invariant-loop-style
invariant-loop-style l = l.links.items ≡ map (first_link l.styles) (take l.style-index l.styles)
