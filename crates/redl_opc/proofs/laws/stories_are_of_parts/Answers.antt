use Rattle.redl_opc.proofs.StoryLaws.{stories-parts}
use Rattle.redl_opc.proofs.laws.stories_are_of_parts.Goals as goal

pub returns : goal.returns
returns c = stories-parts
