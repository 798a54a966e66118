use Rattle.redl_outcome.proofs.SampleLaws.{sample_is_written}
use Rattle.redl_outcome.proofs.laws.samples_are_written.Goals as goal

pub returns : goal.returns
returns c = sample_is_written
