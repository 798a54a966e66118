-- How a list of blocks ends: nothing in front of it leaves its end as it is.
use Rattle.std.proofs.Common.{◌≡◌, Bool, Option, Some, None, refl}
use Rattle.redl_tree.specs.Rules.CellEnds.{or_before, end_of_two}
use Rattle.redl_tree.specs.declared.lists.Reach.{Reach}
use Rattle.redl_tree.specs.declared.lists.Reach.TheVariants.{Direct, Control, Beyond}

pub before_none : (x : Option Bool) → or_before None x ≡ x
before_none None = refl
before_none (Some x) = refl

-- a node that decides nothing does not change how the nodes after it end
pub two_none : (reach : Reach) (x : Option Bool) → end_of_two reach None x ≡ x
two_none Direct x = before_none x
two_none Beyond x = before_none x
two_none Control x = before_none x
