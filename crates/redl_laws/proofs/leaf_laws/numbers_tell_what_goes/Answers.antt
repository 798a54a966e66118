use Rattle.redl_laws.proofs.Leaves.Living.{goes-by-counts}
use Rattle.redl_laws.proofs.leaf_laws.numbers_tell_what_goes.Goals as goal

pub returns : goal.returns
returns c = goes-by-counts
