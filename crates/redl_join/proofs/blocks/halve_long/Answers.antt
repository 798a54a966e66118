use Rattle.std.proofs.Common.{◌≡◌, ◌<◌, ◌/◌, length, List, take, sym, ap, ◌∙◌, ◌++◌, arith, take-append-drop}
use Rattle.std.specs.Global.{Vec}
use Rattle.redl_journal.specs.declared.entry.Entry.{Entry}
use Rattle.redl_join.specs.Blocks.{IsFilled}
use Rattle.redl_join.proofs.BlockLists.{IsCut, halved, halved-filled, whole, block_is, some-front, some-back}
use Rattle.redl_join.proofs.blocks.halve_long.Goals as goal

pub returns-in-Ok-split_off-clause-same : goal.returns-in-Ok-split_off-clause-same
returns-in-Ok-split_off-clause-same c =
    let cut : IsCut c.args.blocks.now.items c.insert.new.self.items c.args.place c.new.result c.index_mut.result.now =
    record { within = rw c.args.blocks.now.ok.0 at c.requires; more_is = c.in-Ok.ensures.items; block = c.index_mut.ensures.value } in
    let half = c.len-count.result / 2 in
    let parts =
    ap (λ (l : List Entry). l ++ c.in-Ok-split_off.upper.items) c.in-Ok-split_off.ensures.items
    ∙ ap (λ (l : List Entry). take half c.index_mut.result.now.items ++ l) c.in-Ok-split_off.ensures.tail
    ∙ take-append-drop half c.index_mut.result.now.items in
    halved c.args.blocks.now.items c.insert.new.self.items c.args.place c.new.result c.index_mut.result.now c.split_off.new.self c.in-Ok-split_off.upper cut parts

pub returns-in-Ok-split_off-clause-filled : goal.returns-in-Ok-split_off-clause-filled
returns-in-Ok-split_off-clause-filled c =
    let cut : IsCut c.args.blocks.now.items c.insert.new.self.items c.args.place c.new.result c.index_mut.result.now =
    record { within = rw c.args.blocks.now.ok.0 at c.requires; more_is = c.in-Ok.ensures.items; block = c.index_mut.ensures.value } in
    let same : c.index.result.now ≡ c.index_mut.result.now =
    block_is c.args.blocks.now.items c.insert.new.self.items c.args.place c.new.result c.index_mut.result.now c.index.result.now cut c.index.ensures in
    let count : c.len-count.result ≡ length c.index_mut.result.now.items = c.len-count.ensures ∙ c.index.result.now.ok.0 ∙ ap (λ (block : Vec Entry). length block.items) same in
    let some : 0 < c.len-count.result / 2 = omega arith in
    let low : IsFilled c.split_off.new.self =
    λ none. some-front c.index_mut.result.now.items (c.len-count.result / 2) some (omega arith) (sym c.in-Ok-split_off.ensures.items ∙ none) in
    let high : IsFilled c.in-Ok-split_off.upper =
    λ none. some-back c.index_mut.result.now.items (c.len-count.result / 2) (omega arith) (sym c.in-Ok-split_off.ensures.tail ∙ none) in
    halved-filled c.args.blocks.now.items c.insert.new.self.items c.args.place c.new.result c.index_mut.result.now c.split_off.new.self c.in-Ok-split_off.upper cut low high

pub returns-in-Err-clause-same : goal.returns-in-Err-clause-same
returns-in-Err-clause-same c =
    let cut : IsCut c.args.blocks.now.items c.insert.new.self.items c.args.place c.new.result c.index_mut.result.now =
    record { within = rw c.args.blocks.now.ok.0 at c.requires; more_is = c.in-Ok.ensures.items; block = c.index_mut.ensures.value } in
    rw c.remove.ensures.items
    (whole c.args.blocks.now.items c.insert.new.self.items c.args.place c.new.result c.index_mut.result.now c.split_off.new.self cut
    (ap (λ (block : Vec Entry). block.items) c.in-Err.ensures.err))
