use Rattle.redl_bare.specs.Inside.Views.{marks_view}
use Rattle.redl_bare.proofs.IdleLaws.{units_shown}
use Rattle.redl_bare.proofs.LineLaws.{units_by}
use Rattle.redl_bare.proofs.idle.put_idle.Goals as goal

pub returns : goal.returns
returns g c = units_by (units_shown c.args.place (marks_view c.args.writer.now.marks) c.args.plain.now) c.show.ensures
