use Rattle.std.proofs.Common.{rules}
use Rattle.redl_io.proofs.Front.{dropped_front, finished_front, on_err}
use Rattle.redl_terminal.specs.Masks.{masked}
use Rattle.redl_terminal.specs.declared.extent.Extent.TheVariants.{Lines}
use Rattle.redl_commands_show.proofs.text.put_masked_text.Goals as goal

pub returns-in_err-put_masked-clause-front : goal.returns-in_err-put_masked-clause-front
returns-in_err-put_masked-clause-front g c =
    on_err _ (dropped_front (g.O.Sink.told c.args.out.now) (g.O.Sink.told c.new-staged.result.sink.now) (g.O.Sink.told c.put_masked.new.out.sink.now) _
    c.new-staged.result.stage c.put_masked.new.out.stage (masked Lines c.args.text.now) (search rules) c.new-staged.ensures.empty
    c.in_err-put_masked.ensures.appends c.in_err-put_masked.ensures.settles (search rules))

pub returns-clause-front : goal.returns-clause-front
returns-clause-front g c =
    on_err _ (finished_front (g.O.Sink.told c.args.out.now) (g.O.Sink.told c.new-staged.result.sink.now) (g.O.Sink.told c.put_masked.new.out.sink.now) _
    c.new-staged.result.stage c.put_masked.new.out.stage (masked Lines c.args.text.now) c.finish.result (search rules) c.new-staged.ensures.empty
    c.in_ok-put_masked.ensures.appends c.in_ok-put_masked.ensures.settles (search rules))
