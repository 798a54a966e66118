use Rattle.redl_laws.proofs.Leaves.Fresh.{fresh-story}
use Rattle.redl_laws.proofs.leaf_laws.states_begin_undecided.Goals as goal

pub returns : goal.returns
returns c = fresh-story
