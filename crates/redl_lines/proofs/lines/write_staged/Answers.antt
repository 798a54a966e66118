use Rattle.std.proofs.Common.{rules}
use Rattle.redl_io.proofs.Front.{dropped_front, finished_front, on_err}
use Rattle.redl_lines.specs.Ends.{call_end_view, end_lines}
use Rattle.redl_lines.proofs.lines.write_staged.Goals as goal

pub returns-in_err-write_end-clause-front : goal.returns-in_err-write_end-clause-front
returns-in_err-write_end-clause-front g c =
    on_err _ (dropped_front (g.E.Sink.told c.args.err.now) (g.E.Sink.told c.new-staged.result.sink.now) (g.E.Sink.told c.write_end.new.err.sink.now) _
    c.new-staged.result.stage c.write_end.new.err.stage (end_lines (call_end_view c.args.end.now)) (search rules) c.new-staged.ensures.empty
    c.in_err-write_end.ensures.appends c.in_err-write_end.ensures.settles (search rules))

pub returns-clause-front : goal.returns-clause-front
returns-clause-front g c =
    on_err _ (finished_front (g.E.Sink.told c.args.err.now) (g.E.Sink.told c.new-staged.result.sink.now) (g.E.Sink.told c.write_end.new.err.sink.now) _
    c.new-staged.result.stage c.write_end.new.err.stage (end_lines (call_end_view c.args.end.now)) c.finish.result (search rules) c.new-staged.ensures.empty
    c.in_ok-write_end.ensures.appends c.in_ok-write_end.ensures.settles (search rules))
