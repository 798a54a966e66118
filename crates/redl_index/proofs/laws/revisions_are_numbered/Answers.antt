use Rattle.redl_index.proofs.PartLaws.{numbers-revisions_of}
use Rattle.redl_index.proofs.laws.revisions_are_numbered.Goals as goal

pub returns : goal.returns
returns c = numbers-revisions_of
