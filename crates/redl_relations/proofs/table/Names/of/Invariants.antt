use Rattle.std.proofs.Common.{◌≡◌, ℕ, List, drop}
use Rattle.redl_reading.specs.Steps.{or_else}
use Rattle.redl_opc.specs.Shape.{parts_of}
use Rattle.redl_relations.specs.Relations.{has_part_name, number_from, part_named}
use Rattle.redl_relations.specs.Inside.Tables.{number_at}
use Rattle.redl_relations.proofs.table.Names.of.Given as goal

-- a name is among those so far, or among those of the parts that are left
abbrev pub invariant-loop-part : goal.invariant-loop-part
invariant-loop-part l = (name : List ℕ) →
    or_else (number_at l.names name) (number_from (has_part_name name) l.part (drop l.part (parts_of l.pkg))) ≡ part_named l.pkg name
