use Rattle.redl_laws.proofs.Leaves.Packages.{package-rebuilt}
use Rattle.redl_laws.proofs.leaf_laws.leaves_make_the_pass.Goals as goal

pub returns : goal.returns
returns c = package-rebuilt
