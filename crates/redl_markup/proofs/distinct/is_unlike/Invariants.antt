use Rattle.std.proofs.Common.{◌≡◌, length, map}
use Rattle.std.specs.Prelude.{not}
use Rattle.std.specs.List.{list_all}
use Rattle.redl_grammar.specs.Names.{name_eq}
use Rattle.redl_markup.specs.Views.{name_view}
use Rattle.redl_markup.proofs.distinct.is_unlike.Given as goal

abbrev pub invariant-loop-other : goal.invariant-loop-other
invariant-loop-other l = list_all (λ m. not (name_eq (name_view l.name) m)) (map name_view l.left.rest.now) ≡ list_all (λ m. not (name_eq (name_view l.name) m)) (map name_view l.others)

abbrev pub decreases-loop-other : goal.decreases-loop-other
decreases-loop-other l = length l.left.rest.now
