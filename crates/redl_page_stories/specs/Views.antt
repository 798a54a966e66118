-- What code keeps of facts, as the definitions see it.
use Rattle.redl_places.specs.Views.{signs_of}
use Rattle.redl_page_stories.specs.Facts.{Facts}
use Rattle.redl_page_stories.specs.declared.facts.StoryFacts.{StoryFacts}

abbrev pub facts_of : StoryFacts → Facts
facts_of facts = record { revisions = facts.index.now; signs = signs_of facts.signs.now; hidden = facts.hidden.now }
