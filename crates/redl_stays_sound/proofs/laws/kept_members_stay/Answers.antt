use Rattle.redl_stays_sound.proofs.Staying.Walk.{kept-stay}
use Rattle.redl_stays_sound.proofs.laws.kept_members_stay.Goals as goal

pub returns : goal.returns
returns c = kept-stay
