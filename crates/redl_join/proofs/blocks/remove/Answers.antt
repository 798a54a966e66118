use Rattle.std.proofs.Common.{sym, ◌∙◌}
use Rattle.redl_journal.proofs.EntryOrder.{entry_order-total}
use Rattle.redl_join.specs.Blocks.{entries_in_blocks}
use Rattle.redl_join.proofs.Parts.{remove_absent}
use Rattle.redl_join.proofs.BlockLists.{end_place, for_place, unseen, for-book, for-taken, for-seen, filled-others, blocks-without}
use Rattle.redl_join.proofs.blocks.remove.Goals as goal

pub returns-then-place-len-clause-removed : goal.returns-then-place-len-clause-removed
returns-then-place-len-clause-removed c =
    let blocks = c.args.blocks.now in
    let at = end_place c.args.entry.now c.deref.result.now blocks.items c.place_of-place.result c.len.result c.place_of-place.ensures c.deref.ensures.value c.if-place-len.true (c.len.ensures ∙ blocks.ok.0) in
    sym (remove_absent entry_order-total (entries_in_blocks blocks.items) c.args.entry.now (unseen blocks.items c.args.entry.now at))

pub returns-then-place-len-clause-was_there : goal.returns-then-place-len-clause-was_there
returns-then-place-len-clause-was_there c =
    let blocks = c.args.blocks.now in
    let at = end_place c.args.entry.now c.deref.result.now blocks.items c.place_of-place.result c.len.result c.place_of-place.ensures c.deref.ensures.value c.if-place-len.true (c.len.ensures ∙ blocks.ok.0) in
    sym (unseen blocks.items c.args.entry.now at)

pub remove_from-was_there-requires : goal.remove_from-was_there-requires
remove_from-was_there-requires c =
    let blocks = c.args.blocks.now in
    let own = for_place c.args.entry.now c.deref.result.now blocks.items c.place_of-place.result c.len.result c.index_mut.result.now c.place_of-place.ensures c.deref.ensures.value c.if-place-len.false (c.len.ensures ∙ blocks.ok.0) c.index_mut.ensures.value in
    for-book c.args.entry.now blocks.items c.place_of-place.result c.index_mut.result.now own c.requires

pub returns-clause-blocks : goal.returns-clause-blocks
returns-clause-blocks c =
    let blocks = c.args.blocks.now in
    let own = for_place c.args.entry.now c.deref.result.now blocks.items c.place_of-place.result c.len.result c.index_mut.result.now c.place_of-place.ensures c.deref.ensures.value c.if-place-len.false (c.len.ensures ∙ blocks.ok.0) c.index_mut.ensures.value in
    blocks-without blocks.items c.drop_empty.new.blocks.items c.args.entry.now c.requires
    (c.drop_empty.ensures.same ∙ for-taken c.args.entry.now blocks.items c.place_of-place.result c.index_mut.result.now c.remove_from-was_there.new.block own c.remove_from-was_there.ensures.removed)
    (c.drop_empty.ensures.filled (filled-others blocks.items c.place_of-place.result c.remove_from-was_there.new.block c.requires.filled))

pub returns-clause-removed : goal.returns-clause-removed
returns-clause-removed c =
    let blocks = c.args.blocks.now in
    let own = for_place c.args.entry.now c.deref.result.now blocks.items c.place_of-place.result c.len.result c.index_mut.result.now c.place_of-place.ensures c.deref.ensures.value c.if-place-len.false (c.len.ensures ∙ blocks.ok.0) c.index_mut.ensures.value in
    c.drop_empty.ensures.same ∙ for-taken c.args.entry.now blocks.items c.place_of-place.result c.index_mut.result.now c.remove_from-was_there.new.block own c.remove_from-was_there.ensures.removed

pub returns-clause-was_there : goal.returns-clause-was_there
returns-clause-was_there c =
    let blocks = c.args.blocks.now in
    let own = for_place c.args.entry.now c.deref.result.now blocks.items c.place_of-place.result c.len.result c.index_mut.result.now c.place_of-place.ensures c.deref.ensures.value c.if-place-len.false (c.len.ensures ∙ blocks.ok.0) c.index_mut.ensures.value in
    c.remove_from-was_there.ensures.was_there
    ∙ sym (for-seen c.args.entry.now blocks.items c.place_of-place.result c.index_mut.result.now own)
