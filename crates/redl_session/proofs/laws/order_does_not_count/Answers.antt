use Rattle.redl_session.proofs.Admissions.{says-same}
use Rattle.redl_session.proofs.laws.order_does_not_count.Goals as goal

pub returns : goal.returns
returns c = says-same
