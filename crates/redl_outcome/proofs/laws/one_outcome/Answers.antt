use Rattle.redl_outcome.proofs.OutcomeLaws.{one_outcome}
use Rattle.redl_outcome.proofs.laws.one_outcome.Goals as goal

pub returns : goal.returns
returns c = one_outcome
