use Rattle.redl_laws.proofs.Leaves.Says.{set_each-same, altered-same}
use Rattle.redl_laws.proofs.leaf_laws.other_says_stay.Goals as goal

pub returns : goal.returns
returns c = record { set = set_each-same; altered = altered-same }
