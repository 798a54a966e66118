use Rattle.redl_laws.proofs.Leaves.Undecided.{pass_leaf-undecided}
use Rattle.redl_laws.proofs.leaf_laws.an_undecided_leaf_stays.Goals as goal

pub returns : goal.returns
returns c = pass_leaf-undecided
