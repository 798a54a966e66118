-- Each sample is a sound package, and has its revisions.
use Rattle.std.proofs.Common.{◌≤◌, ℕ}
use Rattle.redl_sample.specs.Packages.{package_text, revisions}
use Rattle.redl_sound.proofs.Sampled.Counted.{revisions_are}
use Rattle.redl_sound.proofs.Sampled.Readings.{sample_nodes, reading_is, shallow, few_nodes}
use Rattle.redl_sound.proofs.Sampled.Rules.{shape_is, sound_is}
use Rattle.redl_sound.specs.Sound.{HasRevisions, HasSoundPackage}

-- each sample is a package that keeps the rules of structure
pub sound_sample : (number : ℕ) → number ≤ 20000 → HasSoundPackage (package_text number)
sound_sample number few = record {
  nodes = sample_nodes number;
  reading = reading_is number few;
  shallow = shallow number;
  few = few_nodes number few;
  shape = shape_is number;
  sound = sound_is number few;
}

pub counted_sample : (number : ℕ) → number ≤ 20000 → HasRevisions (package_text number) (revisions number)
counted_sample number few = record { nodes = sample_nodes number; reading = reading_is number few; counted = revisions_are number few }
