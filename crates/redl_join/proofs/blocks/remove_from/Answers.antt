use Rattle.std.proofs.Common.{◌<◌, ◌≤◌, length, sym, ◌∙◌}
use Rattle.redl_journal.proofs.EntryOrder.{entry_order-total}
use Rattle.redl_join.proofs.Parts.{rises, removes, remove_absent, lacks, has}
use Rattle.redl_join.proofs.blocks.remove_from.Goals as goal

pub returns-in-Ok-clause-removed : goal.returns-in-Ok-clause-removed
returns-in-Ok-clause-removed c =
    let bound : c.in-Ok.at < length c.args.block.now.items = rw c.deref.ensures.value at c.in-Ok.ensures.bound in
    let own = rw c.deref.ensures.value at c.in-Ok.ensures.ok in
    c.remove.ensures.items ∙ removes entry_order-total c.args.block.now.items c.in-Ok.at c.args.entry.now c.requires bound own

pub returns-in-Ok-clause-was_there : goal.returns-in-Ok-clause-was_there
returns-in-Ok-clause-was_there c =
    let bound : c.in-Ok.at < length c.args.block.now.items = rw c.deref.ensures.value at c.in-Ok.ensures.bound in
    let own = rw c.deref.ensures.value at c.in-Ok.ensures.ok in
    sym (has entry_order-total c.args.block.now.items c.in-Ok.at c.args.entry.now bound own)

pub returns-in-Err-clause-removed : goal.returns-in-Err-clause-removed
returns-in-Err-clause-removed c =
    let bound : c.in-Err.field-0 ≤ length c.args.block.now.items = rw c.deref.ensures.value at c.in-Err.ensures.bound in
    let place = rw c.deref.ensures.value at c.in-Err.ensures.position in
    sym (remove_absent entry_order-total c.args.block.now.items c.args.entry.now
    (lacks entry_order-total c.args.block.now.items c.in-Err.field-0 c.args.entry.now bound (place (rises entry_order-total c.args.block.now.items c.args.entry.now c.requires))))

pub returns-in-Err-clause-was_there : goal.returns-in-Err-clause-was_there
returns-in-Err-clause-was_there c =
    let bound : c.in-Err.field-0 ≤ length c.args.block.now.items = rw c.deref.ensures.value at c.in-Err.ensures.bound in
    let place = rw c.deref.ensures.value at c.in-Err.ensures.position in
    sym (lacks entry_order-total c.args.block.now.items c.in-Err.field-0 c.args.entry.now bound (place (rises entry_order-total c.args.block.now.items c.args.entry.now c.requires)))
