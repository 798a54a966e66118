-- Which stories a change takes, where it goes over them one after the other.
use Rattle.std.specs.Prelude.{◌≡◌, List, [], ◌∷◌}
use Rattle.redl_tree.specs.Model.Nodes.{Tag, Nodes}
use Rattle.redl_tree.specs.Model.View.{Element}
use Rattle.redl_tree.specs.declared.level.Level.{Level}
use Rattle.redl_tree.specs.Decisions.Packages.{level_of, StoryRule}

-- it takes each of these stories, by what those before have left
abbrev pub TakesAll : {S : Type 0} → StoryRule S → (S → Tag → Nodes → Type 0) → S → List Element → Type 0
TakesAll rule Takes given [] = Unit {0}
TakesAll rule Takes given (story ∷ later) =
    Takes given story.tag story.kids × TakesAll rule Takes (rule.left given story.tag story.kids) later

-- it takes the stories that are found where the ancestors are at this level
pub record TakesAt {S : Type 0} (rule : StoryRule S) (Takes : S → Tag → Nodes → Type 0) (given : S) (level : Level) (found : List Tag → List Element) : Type 0 where
  pub ancestors : List Tag
  pub is_level : level ≡ level_of ancestors
  pub takes : TakesAll rule Takes given (found ancestors)
