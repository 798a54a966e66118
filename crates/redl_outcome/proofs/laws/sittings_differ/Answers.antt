use Rattle.redl_outcome.proofs.SittingLaws.{differ_exactly}
use Rattle.redl_outcome.proofs.laws.sittings_differ.Goals as goal

pub returns : goal.returns
returns c = differ_exactly
