use Rattle.redl_laws.proofs.Leaves.Originals.{original-slots}
use Rattle.redl_laws.proofs.leaf_laws.leaves_are_the_original.Goals as goal

pub returns : goal.returns
returns c = original-slots
