use Rattle.redl_rounds_sound.proofs.Orders.{order_is_free}
use Rattle.redl_rounds_sound.proofs.laws.order_is_free.Goals as goal

pub returns : goal.returns
returns c = order_is_free
