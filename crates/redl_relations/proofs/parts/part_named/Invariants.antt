use Rattle.std.proofs.Common.{◌≡◌, drop}
use Rattle.redl_opc.specs.Shape.{parts_of}
use Rattle.redl_relations.specs.Relations.{has_part_name, number_from, part_named}
use Rattle.redl_relations.proofs.parts.part_named.Given as goal

-- none of the parts so far has the name
abbrev pub invariant-loop-part : goal.invariant-loop-part
invariant-loop-part l = number_from (has_part_name l.name) l.part (drop l.part (parts_of l.pkg)) ≡ part_named l.pkg l.name
