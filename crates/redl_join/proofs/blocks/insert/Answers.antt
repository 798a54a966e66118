-- An entry is in the blocks afterwards, once and in its place: at the end, in a block, or in a block that is split.
use Rattle.std.proofs.Common.{sym, ap, ◌∙◌}
use Rattle.std.specs.Prelude.{not}
use Rattle.redl_io.proofs.Front.{on_err}
use Rattle.redl_join.proofs.BlockLists.{end_place, for_place, put_last, unseen, for-book, for-put, for-seen, for-same, for-filled, for-filled_same, blocks-with, blocks-same}
use Rattle.redl_join.proofs.blocks.insert.Goals as goal

pub returns-then-place-len-clause-blocks : goal.returns-then-place-len-clause-blocks
returns-then-place-len-clause-blocks c =
    let blocks = c.args.blocks.now in
    let at = end_place c.args.entry c.deref.result.now blocks.items c.place_of-place.result c.len.result c.place_of-place.ensures c.deref.ensures.value c.if-place-len.true (c.len.ensures ∙ blocks.ok.0) in
    blocks-with blocks.items c.append.new.blocks.items c.args.entry c.requires
    (c.in_ok-append.ensures.appended ∙ put_last blocks.items c.args.entry at) (c.in_ok-append.ensures.filled c.requires.filled)

pub returns-then-place-len-clause-added : goal.returns-then-place-len-clause-added
returns-then-place-len-clause-added c =
    let blocks = c.args.blocks.now in
    let at = end_place c.args.entry c.deref.result.now blocks.items c.place_of-place.result c.len.result c.place_of-place.ensures c.deref.ensures.value c.if-place-len.true (c.len.ensures ∙ blocks.ok.0) in
    c.in_ok-append.ensures.appended ∙ put_last blocks.items c.args.entry at

pub returns-then-place-len-clause-was_new : goal.returns-then-place-len-clause-was_new
returns-then-place-len-clause-was_new c =
    let blocks = c.args.blocks.now in
    let at = end_place c.args.entry c.deref.result.now blocks.items c.place_of-place.result c.len.result c.place_of-place.ensures c.deref.ensures.value c.if-place-len.true (c.len.ensures ∙ blocks.ok.0) in
    sym (ap not (unseen blocks.items c.args.entry at))

pub insert_into-requires : goal.insert_into-requires
insert_into-requires c =
    let blocks = c.args.blocks.now in
    let own = for_place c.args.entry c.deref.result.now blocks.items c.place_of-place.result c.len.result c.index_mut.result.now c.place_of-place.ensures c.deref.ensures.value c.if-place-len.false (c.len.ensures ∙ blocks.ok.0) c.index_mut.ensures.value in
    for-book c.args.entry blocks.items c.place_of-place.result c.index_mut.result.now own c.requires

pub returns-in_err-new-clause-blocks : goal.returns-in_err-new-clause-blocks
returns-in_err-new-clause-blocks c =
    let blocks = c.args.blocks.now in
    let own = for_place c.args.entry c.deref.result.now blocks.items c.place_of-place.result c.len.result c.index_mut.result.now c.place_of-place.ensures c.deref.ensures.value c.if-place-len.false (c.len.ensures ∙ blocks.ok.0) c.index_mut.ensures.value in
    blocks-same blocks.items _ c.requires
    (for-same c.args.entry blocks.items c.place_of-place.result c.index_mut.result.now c.insert_into.new.block own c.in_err-new.ensures.untouched)
    (for-filled_same c.args.entry blocks.items c.place_of-place.result c.index_mut.result.now c.insert_into.new.block own c.requires.filled c.in_err-new.ensures.untouched)

pub returns-in_err-new-clause-untouched : goal.returns-in_err-new-clause-untouched
returns-in_err-new-clause-untouched c =
    let blocks = c.args.blocks.now in
    let own = for_place c.args.entry c.deref.result.now blocks.items c.place_of-place.result c.len.result c.index_mut.result.now c.place_of-place.ensures c.deref.ensures.value c.if-place-len.false (c.len.ensures ∙ blocks.ok.0) c.index_mut.ensures.value in
    on_err c.from_residual-in_err-new.result
    (for-same c.args.entry blocks.items c.place_of-place.result c.index_mut.result.now c.insert_into.new.block own c.in_err-new.ensures.untouched)

pub returns-clause-blocks : goal.returns-clause-blocks
returns-clause-blocks c =
    let blocks = c.args.blocks.now in
    let own = for_place c.args.entry c.deref.result.now blocks.items c.place_of-place.result c.len.result c.index_mut.result.now c.place_of-place.ensures c.deref.ensures.value c.if-place-len.false (c.len.ensures ∙ blocks.ok.0) c.index_mut.ensures.value in
    blocks-with blocks.items c.halve_long.new.blocks.items c.args.entry c.requires
    (c.halve_long.ensures.same ∙ for-put c.args.entry blocks.items c.place_of-place.result c.index_mut.result.now c.insert_into.new.block own c.in_ok-new.ensures.added)
    (c.halve_long.ensures.filled (for-filled c.args.entry blocks.items c.place_of-place.result c.index_mut.result.now c.insert_into.new.block own c.requires.filled c.in_ok-new.ensures.added))

pub returns-clause-added : goal.returns-clause-added
returns-clause-added c =
    let blocks = c.args.blocks.now in
    let own = for_place c.args.entry c.deref.result.now blocks.items c.place_of-place.result c.len.result c.index_mut.result.now c.place_of-place.ensures c.deref.ensures.value c.if-place-len.false (c.len.ensures ∙ blocks.ok.0) c.index_mut.ensures.value in
    c.halve_long.ensures.same ∙ for-put c.args.entry blocks.items c.place_of-place.result c.index_mut.result.now c.insert_into.new.block own c.in_ok-new.ensures.added

pub returns-clause-was_new : goal.returns-clause-was_new
returns-clause-was_new c =
    let blocks = c.args.blocks.now in
    let own = for_place c.args.entry c.deref.result.now blocks.items c.place_of-place.result c.len.result c.index_mut.result.now c.place_of-place.ensures c.deref.ensures.value c.if-place-len.false (c.len.ensures ∙ blocks.ok.0) c.index_mut.ensures.value in
    c.in_ok-new.ensures.was_new
    ∙ ap not (sym (for-seen c.args.entry blocks.items c.place_of-place.result c.index_mut.result.now own))
