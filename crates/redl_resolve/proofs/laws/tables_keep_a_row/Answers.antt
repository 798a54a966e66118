use Rattle.redl_laws.proofs.Soundness.PartLaws.{table-keeps}
use Rattle.redl_resolve.proofs.laws.tables_keep_a_row.Goals as goal

pub returns : goal.returns
returns c = table-keeps
