use Rattle.redl_sound.proofs.Stamps.Again.{moment-again}
use Rattle.redl_sound.proofs.Stamps.Taken.{moment-taken}
use Rattle.redl_sound.proofs.stamp.moments_have_their_form.Goals as goal

pub returns : goal.returns
returns c text seconds = (moment-taken text seconds, moment-again text seconds)
