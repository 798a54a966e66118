use Rattle.std.proofs.Common.{sym, ◌∙◌}
use Rattle.std.proofs.lemmas.Bool.{not-true, not-false}
use Rattle.redl_join.specs.Blocks.{entries_in_blocks}
use Rattle.redl_join.specs.Books.{has_entry}
use Rattle.redl_join.proofs.BlockLists.{counted-new, counted-there}
use Rattle.redl_join.proofs.entry_list.EntryList.insert.Goals as goal

pub invariant_of-self-then-new : goal.invariant_of-self-then-new
invariant_of-self-then-new c =
    let lacks = not-true (has_entry (entries_in_blocks c.self.inside.blocks.items) c.args.entry) (sym c.in_ok-new.ensures.was_new ∙ c.if-new.true) in
    counted-new c.self.inside.blocks.items c.insert.new.blocks.items c.self.inside.count c.args.entry c.self.invariant c.insert.ensures.blocks c.in_ok-new.ensures.added lacks

pub invariant_of-self-else-new : goal.invariant_of-self-else-new
invariant_of-self-else-new c =
    let has = not-false (has_entry (entries_in_blocks c.self.inside.blocks.items) c.args.entry) (sym c.in_ok-new.ensures.was_new ∙ c.if-new.false) in
    counted-there c.self.inside.blocks.items c.insert.new.blocks.items c.self.inside.count c.args.entry c.self.invariant c.insert.ensures.blocks c.in_ok-new.ensures.added has
