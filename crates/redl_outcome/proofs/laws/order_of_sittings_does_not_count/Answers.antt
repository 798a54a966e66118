use Rattle.redl_outcome.proofs.SittingOrderLaws.{order_of_sittings}
use Rattle.redl_outcome.proofs.laws.order_of_sittings_does_not_count.Goals as goal

pub returns : goal.returns
returns c = order_of_sittings
