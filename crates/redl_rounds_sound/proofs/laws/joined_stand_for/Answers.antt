use Rattle.redl_rounds_sound.proofs.Joined.{joined_stand_for}
use Rattle.redl_rounds_sound.proofs.laws.joined_stand_for.Goals as goal

pub returns : goal.returns
returns c = joined_stand_for
