use Rattle.redl_rounds_sound.proofs.Resumed.{resumed_stands_for}
use Rattle.redl_rounds_sound.proofs.laws.resumed_stands_for.Goals as goal

pub returns : goal.returns
returns c = resumed_stands_for
