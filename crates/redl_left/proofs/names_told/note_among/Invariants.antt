use Rattle.std.proofs.Common.{◌≡◌, length}
use Rattle.redl_left.specs.Finds.{found_names}
use Rattle.redl_left.specs.Lines.{noted_all}
use Rattle.redl_left.specs.Search.{table_of}
use Rattle.redl_left.specs.Seen.{tables_of}
use Rattle.redl_left.proofs.names_told.note_among.Given as goal

-- what was noted so far, and then the attributes that are left
abbrev pub invariant-loop-attribute : goal.invariant-loop-attribute
invariant-loop-attribute l =
    noted_all (tables_of l.seen) (found_names (table_of l.search) l.part l.left) ≡ noted_all (tables_of l.initial.seen) (found_names (table_of l.search) l.part l.tail)

abbrev pub decreases-loop-attribute : goal.decreases-loop-attribute
decreases-loop-attribute l = length l.left
