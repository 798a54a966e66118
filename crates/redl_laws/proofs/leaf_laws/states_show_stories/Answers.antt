use Rattle.redl_laws.proofs.Leaves.Stories.{package-shown, package-shown_outer}
use Rattle.redl_laws.proofs.leaf_laws.states_show_stories.Goals as goal

pub returns : goal.returns
returns c = record { whole = package-shown; outer = package-shown_outer }
