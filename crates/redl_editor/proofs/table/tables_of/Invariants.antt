use Rattle.std.proofs.Common.{take}
use Rattle.redl_editor.specs.Kept.{AreTables}
use Rattle.redl_editor.proofs.table.tables_of.Given as goal

abbrev pub invariant-loop-story : goal.invariant-loop-story
invariant-loop-story l = AreTables (take l.story-index l.stories) l.tables.items
