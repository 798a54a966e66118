use Rattle.redl_outcome.proofs.SittingLaws.{sittings_agree}
use Rattle.redl_outcome.proofs.laws.sittings_agree.Goals as goal

pub returns : goal.returns
returns c = sittings_agree
