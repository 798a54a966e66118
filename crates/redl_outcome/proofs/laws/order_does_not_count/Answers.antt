use Rattle.redl_outcome.proofs.AnyOrderLaws.{order_does_not_count}
use Rattle.redl_outcome.proofs.laws.order_does_not_count.Goals as goal

pub returns : goal.returns
returns c = order_does_not_count
