use Rattle.std.proofs.Common.{◌≡◌, sym, ap, ◌∙◌, true, length, ◌≤◌}
use Rattle.std.specs.Prelude.{not}
use Rattle.redl_journal.proofs.EntryOrder.{entry_order-total}
use Rattle.redl_join.specs.Books.{has_entry}
use Rattle.redl_join.proofs.Lists.{insert_present}
use Rattle.redl_join.proofs.Parts.{rises, inserts, lacks, has}
use Rattle.redl_join.proofs.blocks.insert_into.Goals as goal

pub returns-in-Ok-clause-added : goal.returns-in-Ok-clause-added
returns-in-Ok-clause-added c =
    let there : has_entry c.args.block.now.items c.args.entry ≡ true =
    rw c.deref.ensures.value at (has entry_order-total c.deref.result.now c.in-Ok.field-0 c.args.entry c.in-Ok.ensures.bound c.in-Ok.ensures.ok) in
    sym (insert_present entry_order-total c.args.block.now.items c.args.entry c.requires there)

pub returns-in-Ok-clause-was_new : goal.returns-in-Ok-clause-was_new
returns-in-Ok-clause-was_new c =
    let there : has_entry c.args.block.now.items c.args.entry ≡ true =
    rw c.deref.ensures.value at (has entry_order-total c.deref.result.now c.in-Ok.field-0 c.args.entry c.in-Ok.ensures.bound c.in-Ok.ensures.ok) in
    sym (ap not there)

pub returns-in_ok-insert-in-Err-clause-added : goal.returns-in_ok-insert-in-Err-clause-added
returns-in_ok-insert-in-Err-clause-added c =
    let bound : c.in-Err.at ≤ length c.args.block.now.items = rw c.deref.ensures.value at c.in-Err.ensures.bound in
    let place = rw c.deref.ensures.value at c.in-Err.ensures.position in
    c.in_ok-insert-in-Err.ensures.items
    ∙ inserts entry_order-total c.args.block.now.items c.in-Err.at c.args.entry bound (place (rises entry_order-total c.args.block.now.items c.args.entry c.requires))

pub returns-in_ok-insert-in-Err-clause-was_new : goal.returns-in_ok-insert-in-Err-clause-was_new
returns-in_ok-insert-in-Err-clause-was_new c =
    let bound : c.in-Err.at ≤ length c.args.block.now.items = rw c.deref.ensures.value at c.in-Err.ensures.bound in
    let place = rw c.deref.ensures.value at c.in-Err.ensures.position in
    sym (ap not (lacks entry_order-total c.args.block.now.items c.in-Err.at c.args.entry bound (place (rises entry_order-total c.args.block.now.items c.args.entry c.requires))))
