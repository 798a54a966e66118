use Rattle.redl_index.proofs.PartLaws.{revisions-in_story}
use Rattle.redl_index.proofs.laws.each_revision_has_a_part.Goals as goal

pub returns : goal.returns
returns c = revisions-in_story
