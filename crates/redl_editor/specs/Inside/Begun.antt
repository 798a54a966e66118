-- Stories as they are at first.
use Rattle.std.specs.Prelude.{ℕ, ◌≡◌, List, [], ◌∷◌, ◌++◌, replicate}
use Rattle.redl_leaves.specs.Spots.{spot_of}
use Rattle.redl_tree.specs.Leaves.Containers.{opens}
use Rattle.redl_tree.specs.Leaves.Shown.{AreStatesOf}
use Rattle.redl_tree.specs.Model.View.{Element}
use Rattle.redl_tree.specs.declared.kinds.Say.TheVariants.{Keep}
use Rattle.redl_editor.specs.Stories.{states_kept}
use Rattle.redl_editor.specs.declared.story.Story.{Story}

-- this is kept of a story in which nothing is decided
pub record IsBegun (part : Element) (story : Story) : Type 0 where
  pub spot : story.spot ≡ spot_of (part.tag ∷ [])
  pub states : (revisions : ℕ) → AreStatesOf opens (replicate revisions Keep) part (states_kept story)

-- the same of each, in their order
abbrev pub AreBegun : List Element → List Story → Type 0
AreBegun [] [] = Unit {0}
AreBegun (part ∷ parts) (story ∷ stories) = IsBegun part story × AreBegun parts stories
AreBegun _ _ = ⊥

-- these stories were added
pub record AddsBegun (parts : List Element) (old new : List Story) : Type 0 where
  pub added : List Story
  pub items : new ≡ old ++ added
  pub begun : AreBegun parts added
