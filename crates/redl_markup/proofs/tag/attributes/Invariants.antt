use Rattle.std.proofs.Common.{length, map}
use Rattle.redl_grammar.specs.ScanTags.{attributes_at, tail_step}
use Rattle.redl_markup.specs.Views.{name_view}
use Rattle.redl_reading.proofs.Turns.{Going}
use Rattle.redl_markup.proofs.tag.attributes.Given as goal

abbrev pub invariant-loop-gap : goal.invariant-loop-gap
invariant-loop-gap l = Going tail_step (λ s. length s.1) (map name_view l.names.items, l.rest) (attributes_at l.bytes)

abbrev pub decreases-loop-gap : goal.decreases-loop-gap
decreases-loop-gap l = length l.rest
