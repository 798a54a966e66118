use Rattle.std.proofs.Common.{rules}
use Rattle.redl_bare.specs.BareText.{units_text}
use Rattle.redl_bare.specs.Package.{stories_units}
use Rattle.redl_io.proofs.Front.{dropped_front, finished_front, on_err}
use Rattle.redl_order.specs.Borrowed.{all_borrowed}
use Rattle.redl_commands_show.proofs.text.put_stories.Goals as goal

pub returns-in_err-put-clause-front : goal.returns-in_err-put-clause-front
returns-in_err-put-clause-front g c =
    let puts = rw c.in_err-put.was at c.put_into-staged.ensures in
    on_err _ (dropped_front (g.O.Sink.told c.args.out.now) (g.O.Sink.told c.new.result.sink.now) (g.O.Sink.told c.put_into-staged.result.sink.now) _
    c.new.result.stage c.put_into-staged.result.stage (units_text (stories_units (all_borrowed c.args.stories.items))) (search rules) c.new.ensures.empty
    puts.appends puts.settles (search rules))

pub returns-clause-front : goal.returns-clause-front
returns-clause-front g c =
    let puts = rw c.in_ok-put.was at c.put_into-staged.ensures in
    on_err _ (finished_front (g.O.Sink.told c.args.out.now) (g.O.Sink.told c.new.result.sink.now) (g.O.Sink.told c.put_into-staged.result.sink.now) _
    c.new.result.stage c.put_into-staged.result.stage (units_text (stories_units (all_borrowed c.args.stories.items))) c.finish.result (search rules) c.new.ensures.empty
    puts.appends puts.settles (search rules))
