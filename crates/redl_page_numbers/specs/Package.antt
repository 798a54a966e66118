-- The paragraphs of a package that have a number, and the levels of their nums.
use Rattle.std.specs.Prelude.{List}
use Rattle.redl_tree.specs.Model.Nodes.{Nodes}
use Rattle.redl_opc.specs.Shape.{parts_of}
use Rattle.redl_lists.specs.declared.table.Tables.{Tables}
use Rattle.redl_clauses.specs.Clauses.{package_tables}
use Rattle.redl_page_numbers.specs.Levels.{used_levels}
use Rattle.redl_page_numbers.specs.Walks.{Stories, StoryRows, nothing_known, parts_walked}
use Rattle.redl_page_numbers.specs.declared.row.LevelRow.{LevelRow}

pub record PageNumbers : Type 0 where
  pub stories : List StoryRows
  pub levels : List LevelRow

abbrev pub numbers_in : Tables → Stories → PageNumbers
numbers_in tables known = record { stories = known.stories; levels = used_levels tables known.used }

abbrev pub numbers_by : Tables → Nodes → PageNumbers
numbers_by tables nodes = numbers_in tables (parts_walked tables (parts_of nodes) (nothing_known tables))

unfoldable pub package_numbers : Nodes → PageNumbers
package_numbers nodes = numbers_by (package_tables nodes) nodes
