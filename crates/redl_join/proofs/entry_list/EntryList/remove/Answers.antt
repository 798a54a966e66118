use Rattle.std.proofs.Common.{sym, ◌∙◌}
use Rattle.redl_join.proofs.BlockLists.{counted-removed, counted-missed}
use Rattle.redl_join.proofs.entry_list.EntryList.remove.Goals as goal

pub invariant_of-self : goal.invariant_of-self
invariant_of-self c =
    counted-removed c.self.inside.blocks.items c.remove-was_there.new.blocks.items c.self.inside.count c.args.entry.now c.self.invariant c.remove-was_there.ensures.blocks c.remove-was_there.ensures.removed
    (sym c.remove-was_there.ensures.was_there ∙ c.if-was_there.true)

pub invariant_of-self-else-was_there : goal.invariant_of-self-else-was_there
invariant_of-self-else-was_there c =
    counted-missed c.self.inside.blocks.items c.remove-was_there.new.blocks.items c.self.inside.count c.args.entry.now c.self.invariant c.remove-was_there.ensures.blocks c.remove-was_there.ensures.removed
    (sym c.remove-was_there.ensures.was_there ∙ c.if-was_there.false)
