-- What idle nodes show by themselves is what the page shows of them.
use Rattle.redl_html.proofs.PieceLaws.{puts_is}
use Rattle.redl_page_stories.specs.declared.shape.Shape.TheVariants.{Nothing}
use Rattle.redl_page_stories.proofs.IdleLaws.{page_idle}
use Rattle.redl_page_stories.proofs.idle.put_idle.Goals as goal

pub returns : goal.returns
returns g c = puts_is (page_idle (record { facts = c.args.facts; place = c.args.place; shape = Nothing }) c.args.plain.now) c.show.ensures
