use Rattle.redl_idle.proofs.AheadLaws.{idle_begins}
use Rattle.redl_idle.proofs.walk.show.Goals as goal

pub show_ahead-requires : goal.show_ahead-requires
show_ahead-requires g c = idle_begins c.args.plain.now c.text.result.now c.text.ensures.nodes

pub returns : goal.returns
returns g c = c.show_ahead.ensures (idle_begins c.args.plain.now c.text.result.now c.text.ensures.nodes)
