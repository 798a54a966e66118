use Rattle.redl_outcome.proofs.LeftLaws.{leaves_sound}
use Rattle.redl_outcome.proofs.laws.what_is_left_is_sound.Goals as goal

pub returns : goal.returns
returns c = leaves_sound
