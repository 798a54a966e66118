use Rattle.redl_laws.proofs.Leaves.Ways.{story-set}
use Rattle.redl_laws.proofs.leaf_laws.settings_keep_states.Goals as goal

pub returns : goal.returns
returns c = story-set
