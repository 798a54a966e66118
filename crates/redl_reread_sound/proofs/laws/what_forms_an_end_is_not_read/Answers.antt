use Rattle.redl_reread_sound.proofs.Again.{unread}
use Rattle.redl_reread_sound.proofs.laws.what_forms_an_end_is_not_read.Goals as goal

pub returns : goal.returns
returns c = unread
