use Rattle.redl_laws.proofs.Leaves.Packages.{package-rebuilt_outer}
use Rattle.redl_laws.proofs.leaf_laws.outer_leaves_make_the_pass.Goals as goal

pub returns : goal.returns
returns c = package-rebuilt_outer
