use Rattle.redl_stays_sound.proofs.Settled.Stories.{all-settle, settles-all}
use Rattle.redl_stays_sound.proofs.laws.all_decided_settle.Goals as goal

pub returns : goal.returns
returns c = record { indexed = settles-all; numbered = all-settle }
