use Rattle.redl_sound.proofs.Locked.Held.{held-kept, held-left, locked-held}
use Rattle.redl_sound.proofs.locks.locked_revisions_are_left.Goals as goal

pub returns : goal.returns
returns c = record { kept = held-kept; left = held-left; author = locked-held }
