use Rattle.std.proofs.Common.{rules}
use Rattle.redl_io.proofs.Front.{dropped_front, finished_front, on_err}
use Rattle.redl_page.specs.Page.{page_text}
use Rattle.redl_page.specs.PageViews.{shown_by, skin_view}
use Rattle.redl_commands_show.proofs.page.put_staged.Goals as goal

pub returns-in_err-write_page-clause-front : goal.returns-in_err-write_page-clause-front
returns-in_err-write_page-clause-front g c =
    on_err _ (dropped_front (g.O.Sink.told c.args.out.now) (g.O.Sink.told c.new-staged.result.sink.now) (g.O.Sink.told c.write_page.new.out.sink.now) _
    c.new-staged.result.stage c.write_page.new.out.stage (page_text (skin_view c.args.skin.now) (shown_by c.args.page.now)) (search rules) c.new-staged.ensures.empty
    c.in_err-write_page.ensures.appends c.in_err-write_page.ensures.settles (search rules))

pub returns-clause-front : goal.returns-clause-front
returns-clause-front g c =
    on_err _ (finished_front (g.O.Sink.told c.args.out.now) (g.O.Sink.told c.new-staged.result.sink.now) (g.O.Sink.told c.write_page.new.out.sink.now) _
    c.new-staged.result.stage c.write_page.new.out.stage (page_text (skin_view c.args.skin.now) (shown_by c.args.page.now)) c.finish.result (search rules) c.new-staged.ensures.empty
    c.in_ok-write_page.ensures.appends c.in_ok-write_page.ensures.settles (search rules))
