use Rattle.std.proofs.Common.{◌+◌, List, take, sym, subst}
use Rattle.redl_leaves.specs.View.{states_of}
use Rattle.redl_leaves.specs.declared.slots.Slot.{Slot}
use Rattle.redl_tree.specs.Leaves.States.{slots_of}
use Rattle.redl_editor.proofs.KeptLaws.{tables-pushed}
use Rattle.redl_editor.specs.Kept.{AreTables}
use Rattle.redl_editor.specs.Tables.{IsTable}
use Rattle.redl_editor.specs.declared.table.Table.{Table}
use Rattle.redl_editor.proofs.table.tables_of.Goals as goal

pub loop-story-preserved : goal.loop-story-preserved
loop-story-preserved c =
    let i = c.loop-story.story-index in
    let x = c.story-item.result in
    let table = c.in_ok-table.table in
    let known : IsTable table (slots_of (states_of x.slots.items)) =
    subst (λ (slots : List Slot). IsTable table (slots_of (states_of slots))) c.deref.ensures.value c.in_ok-table.ensures in
    subst (λ (ts : List Table). AreTables (take (i + 1) c.args.stories.now) ts) (sym c.in_ok-push.ensures.items)
    (tables-pushed c.args.stories.now i x c.loop-story.tables.items table c.loop-story-test.true c.story-item.is c.loop-story.invariant known)
