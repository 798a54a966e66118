use Rattle.redl_opc.proofs.StoryLaws.{story-part_of}
use Rattle.redl_opc.proofs.laws.each_story_has_a_part.Goals as goal

pub returns : goal.returns
returns c = story-part_of
