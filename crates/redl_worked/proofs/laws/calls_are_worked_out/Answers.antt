use Rattle.redl_worked.proofs.Calls.{worked_out}
use Rattle.redl_worked.proofs.laws.calls_are_worked_out.Goals as goal

pub returns : goal.returns
returns c = worked_out
