use Rattle.std.proofs.Common.{Some, ap, map}
use Rattle.redl_bare.specs.Inside.Views.{mark_view}
use Rattle.redl_bare.proofs.line.Line.start.Goals as goal

pub returns : goal.returns
returns c = ap (λ l. Some (map mark_view l)) c.copy.ensures
