use Rattle.redl_rounds_sound.proofs.Alike.{alike_is_settled}
use Rattle.redl_rounds_sound.proofs.laws.alike_is_settled.Goals as goal

pub returns : goal.returns
returns c = alike_is_settled
