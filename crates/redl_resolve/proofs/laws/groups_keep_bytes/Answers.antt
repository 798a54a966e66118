use Rattle.redl_tree.proofs.Decisions.GroupLaws.{beside-grouped}
use Rattle.redl_resolve.proofs.laws.groups_keep_bytes.Goals as goal

pub returns : goal.returns
returns c = beside-grouped
