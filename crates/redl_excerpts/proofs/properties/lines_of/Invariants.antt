use Rattle.std.proofs.Common.{◌≡◌, map, take}
use Rattle.redl_excerpts.specs.Properties.{changed_words}
use Rattle.redl_excerpts.proofs.properties.lines_of.Given as goal

-- those of the first excerpts
abbrev pub invariant-loop-excerpt : goal.invariant-loop-excerpt
invariant-loop-excerpt l = l.lines.items ≡ map changed_words (take l.excerpt-index l.excerpts)
