use Rattle.redl_rounds_sound.proofs.EmptyMoves.{only-empty-moves}
use Rattle.redl_rounds_sound.proofs.Settled.{settled_is_counted}
use Rattle.redl_rounds_sound.proofs.laws.settled_is_counted.Goals as goal

pub returns : goal.returns
returns c = record { left = only-empty-moves; call = settled_is_counted }
