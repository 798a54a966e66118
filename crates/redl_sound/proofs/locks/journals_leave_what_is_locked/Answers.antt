use Rattle.redl_sound.proofs.Locked.Opened.{opened-kept, opened-left}
use Rattle.redl_sound.proofs.locks.journals_leave_what_is_locked.Goals as goal

pub returns : goal.returns
returns c = record { kept = opened-kept; left = opened-left }
