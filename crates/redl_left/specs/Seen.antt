-- The lines that code keeps while it goes over the nodes.
use Rattle.std.specs.Prelude.{List, map}
use Rattle.redl_left.specs.declared.line.Line.{Line}
use Rattle.redl_left.specs.declared.seen.Seen.{Seen}

-- fact by fact
abbrev pub tables_of : Seen → List (List Line)
tables_of seen = map (λ lines. lines.items) seen.tables.items
