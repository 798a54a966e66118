-- Leaves that are made anew.
use Rattle.std.specs.Prelude.{ℕ, List, [], ◌∷◌, Bool}
use Rattle.redl_tree.specs.Leaves.Containers.{opens}
use Rattle.redl_tree.specs.Leaves.Pending.{Covers}
use Rattle.redl_tree.specs.Leaves.Settings.{SameBut, IsUnheld}
use Rattle.redl_tree.specs.Leaves.Slots.{slots_in}
use Rattle.redl_tree.specs.Leaves.States.{States, slots_of}
use Rattle.redl_tree.specs.Leaves.Ways.{AreWays, is_end}
use Rattle.redl_tree.specs.Model.View.{Element, nodes_of}
use Rattle.redl_tree.specs.declared.kinds.Say.{Say}
use Rattle.redl_leaves.specs.Puts.{IsMade}
use Rattle.redl_leaves.specs.declared.stepping.Made.{Made}

-- the way to the leaf that was made
abbrev pub way_of : Made → List ℕ
way_of one = one.way.now

-- each of them is the pass of the leaf at the end of its way
abbrev pub AreMade : List Say → List Made → States → Type 0
AreMade says [] _ = Unit {0}
AreMade says (one ∷ later) states = IsMade says one.way.now (nodes_of one.nodes.items) states × AreMade says later states

-- what setting takes: these says differ in the revisions that are set alone, no container is a member of one, and these ways
-- lead to each leaf that holds one
pub record CanSet (is_set : ℕ → Bool) (old new : List Say) (story : Element) (ends : List (List ℕ)) (states : States) : Type 0 where
  pub same : SameBut is_set old new
  pub unheld : IsUnheld is_set (slots_in opens (story.tag ∷ []) story.kids)
  pub ways : AreWays ends (slots_of states)
  pub covers : Covers (is_end (slots_of states) ends) is_set 0 (slots_of states)
