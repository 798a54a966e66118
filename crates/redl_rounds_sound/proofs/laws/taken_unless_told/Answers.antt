use Rattle.redl_rounds_sound.proofs.Told.{taken_unless_told}
use Rattle.redl_rounds_sound.proofs.laws.taken_unless_told.Goals as goal

pub returns : goal.returns
returns c = taken_unless_told
