-- Lines: the finds of each fact in the order of the document, where those that come one after the other in one part with one value
-- are one line (our own rule).
use Rattle.std.specs.Prelude.{List, [], ◌∷◌, ◌++◌, ◌+◌, ◌-◌, ◌^◌, min, get_or, set, replicate, length, slice_get, Bool, true, false, ◌&&◌, bytes_eq, Option, Some, None, if◌then◌else◌}
use Rattle.redl_tree.specs.Model.Nodes.{Nodes}
use Rattle.redl_left.specs.Facts.{fact_number}
use Rattle.redl_left.specs.Named.{named_in}
use Rattle.redl_left.specs.Finds.{Find, Table, finds, rows_table}
use Rattle.redl_left.specs.declared.fact.TheConstants.{FACTS}
use Rattle.redl_left.specs.declared.line.Line.{Line}
use Rattle.redl_left.specs.declared.rows.TheConstants.{NAMING, ROWS}

-- the line of one find
abbrev pub line_of : Find → Line
line_of find = record { fact = find.fact; part = find.part; value = find.value; count = 1 }

abbrev pub is_same : Line → Find → Bool
is_same line find = bytes_eq line.part find.part && bytes_eq line.value find.value

-- with one find more
abbrev pub one_more : Line → Line
one_more line = record line { count = min (line.count + 1) (2 ^ 32 - 1) }

-- the find belongs to the last line
abbrev pub ends_same : Option Line → Find → Bool
ends_same None find = false
ends_same (Some last) find = is_same last find

-- with one find more in the last line
abbrev pub count_last : List Line → Option Line → List Line
count_last lines None = lines
count_last lines (Some last) = set lines (length lines - 1) (one_more last)

abbrev pub last_of : List Line → Option Line
last_of lines = slice_get lines (length lines - 1)

-- the lines of a fact after one find more
abbrev pub noted : List Line → Find → List Line
noted lines find = if ends_same (last_of lines) find then count_last lines (last_of lines) else lines ++ line_of find ∷ []

-- the lines of all facts, each at its place
abbrev pub noted_in : List (List Line) → Find → List (List Line)
noted_in tables find = set tables (fact_number find.fact) (noted (get_or tables (fact_number find.fact) []) find)

abbrev pub noted_all : List (List Line) → List Find → List (List Line)
noted_all tables [] = tables
noted_all tables (find ∷ finds) = noted_all (noted_in tables find) finds

-- by the lines of no find
abbrev pub no_lines : List (List Line)
no_lines = replicate FACTS []

abbrev pub tables_of_nodes : Table → Nodes → List (List Line)
tables_of_nodes table nodes = noted_all no_lines (finds table [] [] nodes)

-- fact by fact
abbrev pub all_lines : List (List Line) → List Line
all_lines [] = []
all_lines (lines ∷ tables) = lines ++ all_lines tables

-- what elements name: ids of comments and of notes, and authors
abbrev pub naming : Table
naming = rows_table NAMING false (λ fact value. false)

abbrev pub naming_tables : Nodes → List (List Line)
naming_tables nodes = tables_of_nodes naming nodes

-- what is asked of the elements of a package
abbrev pub asking : Nodes → Table
asking nodes = rows_table ROWS true (named_in (naming_tables nodes))

-- the lines of a package
unfoldable pub left_lines : Nodes → List Line
left_lines nodes = all_lines (tables_of_nodes (asking nodes) nodes)
