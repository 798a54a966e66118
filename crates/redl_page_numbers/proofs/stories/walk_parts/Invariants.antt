use Rattle.std.proofs.Common.{◌≡◌, drop}
use Rattle.redl_opc.specs.Shape.{parts_of}
use Rattle.redl_page_numbers.specs.Walks.{parts_walked}
use Rattle.redl_page_numbers.proofs.stories.walk_parts.Given as goal

-- the walk over the parts that are left comes to the same as that over all of them
abbrev pub invariant-loop-part : goal.invariant-loop-part
invariant-loop-part l = parts_walked l.lists.tables.now (drop l.part (parts_of l.pkg)) l.known ≡ parts_walked l.lists.tables.now (parts_of l.pkg) l.initial.known
