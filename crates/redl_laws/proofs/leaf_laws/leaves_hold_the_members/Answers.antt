use Rattle.redl_laws.proofs.Leaves.Stories.{package-held}
use Rattle.redl_laws.proofs.leaf_laws.leaves_hold_the_members.Goals as goal

pub returns : goal.returns
returns c = package-held
