use Rattle.std.proofs.Common.{◌≡◌, length, map}
use Rattle.redl_grammar.specs.Names.{are_distinct}
use Rattle.redl_markup.specs.Views.{name_view}
use Rattle.redl_markup.proofs.distinct.few_unlike.Given as goal

abbrev pub invariant-loop-first : goal.invariant-loop-first
invariant-loop-first l = are_distinct (map name_view l.left.rest.now) ≡ are_distinct (map name_view l.names)

abbrev pub decreases-loop-first : goal.decreases-loop-first
decreases-loop-first l = length l.left.rest.now
