use Rattle.std.proofs.Common.{◌<◌, length, sym, ◌∙◌}
use Rattle.redl_join.proofs.BlockLists.{joined-drop, filled-back, empty_block, some_block}
use Rattle.redl_join.proofs.blocks.drop_empty.Goals as goal

pub returns-then-is_empty-clause-same : goal.returns-then-is_empty-clause-same
returns-then-is_empty-clause-same c =
    let within : c.args.place < length c.args.blocks.now.items = rw c.args.blocks.now.ok.0 at c.requires in
    rw c.remove.ensures.items
    (joined-drop c.args.blocks.now.items c.args.place c.index.result.now within c.index.ensures (empty_block c.index.result.now (sym c.is_empty.ensures ∙ c.if-is_empty.true)))

pub returns-else-is_empty-clause-filled : goal.returns-else-is_empty-clause-filled
returns-else-is_empty-clause-filled c =
    let within : c.args.place < length c.args.blocks.now.items = rw c.args.blocks.now.ok.0 at c.requires in
    filled-back c.args.blocks.now.items c.args.place c.index.result.now within c.index.ensures (some_block c.index.result.now (sym c.is_empty.ensures ∙ c.if-is_empty.false))
