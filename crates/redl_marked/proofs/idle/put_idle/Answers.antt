use Rattle.redl_marked.proofs.IdleLaws.{marked-idle}
use Rattle.redl_marked.proofs.idle.put_idle.Goals as goal

pub returns : goal.returns
returns g c = rw (marked-idle c.args.above c.args.plain.now) c.show.ensures
