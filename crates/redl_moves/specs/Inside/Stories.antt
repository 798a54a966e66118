-- The moves of a story, as the code keeps them.
use Rattle.std.specs.Prelude.{ℕ, ◌≡◌, List, Option, Some, None, find, nat_eq, option_map, slice_get}
use Rattle.indexmap.specs.IndexMap.{get}
use Rattle.redl_tree.specs.Revisions.Moves.{Marking, pairs, pair_at, is_of_pair}
use Rattle.redl_moves.specs.Marks.{RisesFrom}
use Rattle.redl_moves.specs.Standing.{range_on, before, IsApart}
use Rattle.redl_moves.specs.Starts.{start_by, start_in}
use Rattle.redl_moves.specs.declared.marker.Move.{Move}
use Rattle.redl_moves.specs.declared.opens.Side.{Side}
use Rattle.redl_moves.specs.declared.opens.Side.TheVariants.{Source, Target}
use Rattle.redl_moves.specs.declared.start.Start.{Start}
use Rattle.redl_moves.specs.declared.move_index.MoveIndex.{MoveIndex}

-- the item of a list of optional items
abbrev pub item_of : Option (Option Move) → Option Move
item_of None = None
item_of (Some item) = item

-- the move that is open on a side after so many markers
abbrev pub open_in : Side → MoveIndex → ℕ → Option Move
open_in Source index place = item_of (slice_get index.sources.items place)
open_in Target index place = item_of (slice_get index.targets.items place)

-- where a move begins that is given by places
abbrev pub start_of_move : List Marking → Move → Start
start_of_move marks m = start_by marks m.from_start

-- the index answers of the moves of these markers
pub record IsMoveIndex (marks : List Marking) (index : MoveIndex) : Type 0 where
  pub opens : (side : Side) (at : ℕ) → IsApart at marks →
      option_map (start_of_move marks) (open_in side index (before at marks)) ≡ option_map (start_in marks) (pair_at (range_on side) at (pairs marks))
  pub owners : (at : ℕ) → get nat_eq index.owners at ≡ option_map (start_in marks) (find (is_of_pair at) (pairs marks))

-- the markers rise, and this is their index
pub record IsStory (marks : List Marking) (index : MoveIndex) : Type 0 where
  pub rising : RisesFrom 0 marks
  pub answers : IsMoveIndex marks index
