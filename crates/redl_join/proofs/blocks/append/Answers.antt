use Rattle.std.proofs.Common.{◌≡◌, ◌-◌, length, ap, ◌∙◌, arith}
use Rattle.redl_io.proofs.Front.{on_err}
use Rattle.redl_join.proofs.BlockLists.{joined-push-at, joined-same}
use Rattle.redl_join.proofs.blocks.append.Goals as goal

pub returns-in_err-push-clause-untouched : goal.returns-in_err-push-clause-untouched
returns-in_err-push-clause-untouched c =
    let count : c.len-count.result ≡ length c.args.blocks.now.items = c.len-count.ensures ∙ c.args.blocks.now.ok.0 in
    on_err c.from_residual.result
    (joined-same c.args.blocks.now.items (c.len-count.result - 1) c.push.new.self c.index_mut.result.now (omega arith)
    (c.in_err-push.ensures.items ∙ ap (λ block. block.items) c.index_mut.ensures.value))

pub returns-then-len-lt-BLOCK-clause-appended : goal.returns-then-len-lt-BLOCK-clause-appended
returns-then-len-lt-BLOCK-clause-appended c =
    let count : c.len-count.result ≡ length c.args.blocks.now.items = c.len-count.ensures ∙ c.args.blocks.now.ok.0 in
    joined-push-at c.args.blocks.now.items c.len-count.result c.push.new.self c.index_mut.result.now c.args.entry count c.if-count-gt0.true c.index_mut.ensures.value c.in_ok-push.ensures.items
