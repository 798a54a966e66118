use Rattle.redl_laws.proofs.Leaves.Locality.{goes_at-same}
use Rattle.redl_laws.proofs.leaf_laws.a_container_elsewhere_stays.Goals as goal

pub returns : goal.returns
returns c = goes_at-same
