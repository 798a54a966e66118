use Rattle.redl_laws.proofs.Leaves.Locality.{pass_leaf-same}
use Rattle.redl_laws.proofs.leaf_laws.a_leaf_elsewhere_stays.Goals as goal

pub returns : goal.returns
returns c = pass_leaf-same
