-- The stories of a package that are still to be labelled, as the code keeps them.
use Rattle.std.specs.Prelude.{◌≡◌, ◌<◌, ◌^◌, ◌+◌, ℕ, List, drop, map, slice_get, Some, IsTrue}
use Rattle.redl_tree.specs.Model.Count.{count}
use Rattle.redl_tree.specs.Model.Nodes.{Tag, Nodes}
use Rattle.redl_tree.specs.Decisions.Packages.{StoryRule, is_story_root}
use Rattle.redl_tree.specs.Revisions.Numbers.{labelled_story, next_after_story}
use Rattle.redl_stamp.specs.Attribute.{attribute_value}
use Rattle.redl_index.specs.StoryFacts.{Facts, facts_of, facts_in, element_by}
use Rattle.redl_index.specs.declared.label.ToLabel.{ToLabel}

-- the next number, and what is known of the stories that are left
pub record Left : Type 0 where
  pub next : ℕ
  pub stories : List Facts

abbrev pub left_of : ToLabel → Left
left_of left = record { next = left.next; stories = map facts_of (drop left.place left.stories.items) }

-- each story is labelled from the next number on
abbrev pub left_rule : StoryRule Left
left_rule = record {
  kids = λ left tag kids. labelled_story attribute_value left.next tag kids;
  left = λ left tag kids. record { next = next_after_story attribute_value left.next tag kids; stories = drop 1 left.stories };
}

-- the story with this root is the next one that is known, and 32 bits hold its numbers
pub record IsNext (left : Left) (tag : Tag) (kids : Nodes) : Type 0 where
  pub root : IsTrue (is_story_root tag)
  pub known : slice_get left.stories 0 ≡ Some (facts_in (element_by tag kids))
  pub begun : 0 < left.next
  pub few : left.next + count kids < 2 ^ 32
