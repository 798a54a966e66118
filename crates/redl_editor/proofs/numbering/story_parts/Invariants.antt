use Rattle.std.proofs.Common.{◌≡◌, take}
use Rattle.redl_opc.specs.Shape.{parts_of}
use Rattle.redl_editor.specs.Parts.{numbers_from}
use Rattle.redl_editor.proofs.numbering.story_parts.Given as goal

-- the stories so far
abbrev pub invariant-loop-part : goal.invariant-loop-part
invariant-loop-part l = l.parts.items ≡ numbers_from 0 (take l.part (parts_of l.pkg))
