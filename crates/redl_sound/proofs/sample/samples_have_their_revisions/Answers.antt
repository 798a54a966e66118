use Rattle.redl_sound.proofs.Sampled.Samples.{counted_sample}
use Rattle.redl_sound.proofs.sample.samples_have_their_revisions.Goals as goal

pub returns : goal.returns
returns c = counted_sample
