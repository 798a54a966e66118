use Rattle.redl_laws.proofs.Leaves.Costs.{cost-once, cost-own}
use Rattle.redl_tree.specs.Leaves.Containers.{opens}
use Rattle.redl_laws.proofs.leaf_laws.leaves_are_made_once.Goals as goal

pub returns : goal.returns
returns c = record { once = cost-once opens; own = cost-own opens }
