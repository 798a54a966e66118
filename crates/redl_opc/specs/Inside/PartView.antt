-- The code's entry for a part.
use Rattle.std.specs.Prelude.{ℕ, List}
use Rattle.redl_opc.specs.declared.part.Part.{Part}

-- its place among the kids of the root, and its name
abbrev pub part_view : Part → ℕ × List ℕ
part_view part = (part.place, part.name)
