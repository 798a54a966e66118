use Rattle.redl_inputs.proofs.ReaderLaws.{a_reader}
use Rattle.redl_outcome.proofs.laws.a_reader.Goals as goal

pub returns : goal.returns
returns c = a_reader
