use Rattle.std.proofs.Common.{sym, [], append-nil}
use Rattle.redl_idle.proofs.TakeLaws.{takes_fails, takes_as}
use Rattle.redl_idle.proofs.walk.show_ahead.Goals as goal

pub returns-in_err-show_nodes : goal.returns-in_err-show_nodes
returns-in_err-show_nodes g c = λ begin. takes_fails g.S.Shows.taking [] (sym (append-nil _)) c.from_residual.ensures.1 (c.in_err-show_nodes.ensures.puts begin)

pub returns : goal.returns
returns g c = λ begin. takes_as g.S.Shows.taking (c.in_ok-show_nodes.ensures.puts begin)
