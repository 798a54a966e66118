use Rattle.redl_index.proofs.AgainLaws.{revisions-numbered, count-numbered}
use Rattle.redl_index.proofs.laws.numbering_keeps_revisions.Goals as goal

pub returns : goal.returns
returns c = record { revisions = revisions-numbered; count = count-numbered }
