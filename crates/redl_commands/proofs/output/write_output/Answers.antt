use Rattle.std.proofs.Common.{rules}
use Rattle.redl_io.proofs.Front.{dropped_front, finished_front, on_err}
use Rattle.redl_commands.specs.Views.{output_text}
use Rattle.redl_commands.proofs.output.write_output.Goals as goal

pub returns-in_err-put_output-clause-front : goal.returns-in_err-put_output-clause-front
returns-in_err-put_output-clause-front g c =
    on_err _ (dropped_front (g.O.Sink.told c.args.out.now) (g.O.Sink.told c.new-staged.result.sink.now) (g.O.Sink.told c.put_output.new.out.sink.now) _
    c.new-staged.result.stage c.put_output.new.out.stage (output_text c.args.output.now) (search rules) c.new-staged.ensures.empty
    c.in_err-put_output.ensures.appends c.in_err-put_output.ensures.settles (search rules))

pub returns-clause-front : goal.returns-clause-front
returns-clause-front g c =
    on_err _ (finished_front (g.O.Sink.told c.args.out.now) (g.O.Sink.told c.new-staged.result.sink.now) (g.O.Sink.told c.put_output.new.out.sink.now) _
    c.new-staged.result.stage c.put_output.new.out.stage (output_text c.args.output.now) c.finish.result (search rules) c.new-staged.ensures.empty
    c.in_ok-put_output.ensures.appends c.in_ok-put_output.ensures.settles (search rules))
