use Rattle.redl_sound.proofs.Sampled.Samples.{sound_sample}
use Rattle.redl_sound.proofs.sample.samples_are_packages.Goals as goal

pub returns : goal.returns
returns c = sound_sample
