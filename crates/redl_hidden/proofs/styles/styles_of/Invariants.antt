use Rattle.std.proofs.Common.{◌≡◌, map, take}
use Rattle.redl_lists.specs.Parts.{part_elements}
use Rattle.redl_hidden.specs.Styles.{style_of}
use Rattle.redl_hidden.proofs.styles.styles_of.Given as goal

abbrev pub invariant-loop-part : goal.invariant-loop-part
invariant-loop-part l = l.styles.items ≡ map style_of (part_elements (take l.part-index l.parts))
