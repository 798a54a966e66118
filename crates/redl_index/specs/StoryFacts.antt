-- What is known of the stories of a package before their revisions are numbered.
use Rattle.std.specs.Prelude.{◌≡◌, ◌<◌, ◌^◌, ℕ, List, map, length, replicate, Option, None}
use Rattle.redl_opc.specs.Shape.{refusal}
use Rattle.redl_rules.specs.Attributes.{broken_rule}
use Rattle.redl_tree.specs.Decisions.Packages.{stories}
use Rattle.redl_tree.specs.Model.Count.{count}
use Rattle.redl_tree.specs.Model.Nodes.{Tag, Nodes}
use Rattle.redl_tree.specs.Model.View.{Element}
use Rattle.redl_tree.specs.Revisions.Moves.{Marking}
use Rattle.redl_moves.specs.Marks.{markings}
use Rattle.redl_index.specs.declared.markers.StoryMarkers.{StoryMarkers}
use Rattle.redl_index.specs.Markers.Ends.{ends_from}
use Rattle.redl_index.specs.Markers.Found.{markers_of, marker_tails}
use Rattle.redl_index.specs.declared.story_facts.StoryFacts.{StoryFacts}

-- a story by its markers, their attributes, the ends of its paragraphs, and the numbers of its moves by places among the markers
pub record Facts : Type 0 where
  pub marks : List Marking
  pub tails : List (List ℕ)
  pub ends : List ℕ
  pub numbers : List ℕ

abbrev pub facts_of : StoryFacts → Facts
facts_of known = record {
  marks = known.moves;
  tails = map (λ tail. tail.now) known.tails.items;
  ends = known.ends.items;
  numbers = known.numbers.moves.items;
}

-- the same by what was found in it, where no move has a number yet
abbrev pub facts_by : StoryMarkers → Facts
facts_by found = record {
  marks = markings found.marks.items;
  tails = map (λ tail. tail.now) found.tails.items;
  ends = found.ends.items;
  numbers = replicate (length (markings found.marks.items)) 0;
}

abbrev pub element_by : Tag → Nodes → Element
element_by tag kids = record { tag = tag; kids = kids }

-- what there is to know of a story, none of whose moves has a number yet
abbrev pub facts_in : Element → Facts
facts_in story = record {
  marks = markers_of story.tag story.kids;
  tails = marker_tails story.tag story.kids;
  ends = ends_from 1 story.kids;
  numbers = replicate (length (markers_of story.tag story.kids)) 0;
}

-- the rule that a package breaks, and what is known of its stories
pub record IsSurvey (nodes : Nodes) (rule : Option ℕ) (surveyed : List Facts) : Type 0 where
  pub broken : rule ≡ broken_rule nodes
  pub known : surveyed ≡ map facts_in (stories nodes)
  pub shape : refusal nodes ≡ None
  pub few : count nodes < 2 ^ 32
