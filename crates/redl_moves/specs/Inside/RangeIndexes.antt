-- The ranges of the moves of a story, as the code keeps them.
use Rattle.std.specs.Prelude.{◌≡◌, ℕ, List}
use Rattle.redl_tree.specs.Revisions.Moves.{Edge, from_start, from_end, to_start, to_end, Marking}
use Rattle.redl_moves.specs.Marks.{markings}
use Rattle.redl_moves.specs.Keys.{has_key}
use Rattle.redl_moves.specs.Places.{only_place}
use Rattle.redl_moves.specs.Inside.MarkerIndexes.{at_key, one_place}
use Rattle.redl_moves.specs.declared.marker_index.Key.TheVariants.{Id, Name}
use Rattle.redl_moves.specs.declared.range_index.RangeIndex.{RangeIndex}
use Rattle.redl_moves.specs.declared.range_index.RangeIndexes.{RangeIndexes}

-- the index answers for the starts and ends of these kinds among these markers
pub record IsRangeIndex (start end : Edge) (marks : List Marking) (ranges : RangeIndex) : Type 0 where
  pub shown : markings ranges.marks.now ≡ marks
  pub named : (key : List ℕ) → one_place (at_key ranges.named key) ≡ only_place (has_key Name start key) marks
  pub starts : (key : List ℕ) → one_place (at_key ranges.starts key) ≡ only_place (has_key Id start key) marks
  pub ends : (key : List ℕ) → one_place (at_key ranges.ends key) ≡ only_place (has_key Id end key) marks

pub record AreRangeIndexes (marks : List Marking) (ranges : RangeIndexes) : Type 0 where
  pub source : IsRangeIndex from_start from_end marks ranges.source
  pub target : IsRangeIndex to_start to_end marks ranges.target
