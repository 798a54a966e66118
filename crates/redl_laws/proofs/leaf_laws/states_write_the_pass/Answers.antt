use Rattle.redl_laws.proofs.Leaves.Shown.{package-shows, package-shows_outer}
use Rattle.redl_laws.proofs.leaf_laws.states_write_the_pass.Goals as goal

pub returns : goal.returns
returns c = record { whole = package-shows; outer = package-shows_outer }
