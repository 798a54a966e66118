use Rattle.redl_reread_sound.proofs.Again.{reread}
use Rattle.redl_reread_sound.proofs.laws.what_is_left_is_read_again.Goals as goal

pub returns : goal.returns
returns c = reread
