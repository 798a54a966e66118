use Rattle.redl_laws.proofs.Soundness.PartLaws.{restored-adds}
use Rattle.redl_resolve.proofs.laws.restoring_adds_nothing.Goals as goal

pub returns : goal.returns
returns c = restored-adds
