use Rattle.redl_rounds_sound.proofs.Second.{left_is_taken_again}
use Rattle.redl_rounds_sound.proofs.laws.left_is_taken_again.Goals as goal

pub returns : goal.returns
returns c = left_is_taken_again
