use Rattle.redl_stays_sound.proofs.Stories.{kept_stay}
use Rattle.redl_stays_sound.proofs.laws.kept_marks_stay.Goals as goal

pub returns : goal.returns
returns c = kept_stay
