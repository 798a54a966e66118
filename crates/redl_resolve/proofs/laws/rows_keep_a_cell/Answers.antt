use Rattle.redl_laws.proofs.Soundness.PartLaws.{row-keeps}
use Rattle.redl_resolve.proofs.laws.rows_keep_a_cell.Goals as goal

pub returns : goal.returns
returns c = row-keeps
