use Rattle.std.proofs.Common.{refl}
use Rattle.redl_tree.specs.Model.Nodes.{no_nodes}
use Rattle.redl_idle.proofs.TakeLaws.{takes_then, takes_fails}
use Rattle.redl_idle.proofs.AheadLaws.{none_ahead}
use Rattle.redl_idle.proofs.ShowLaws.{element-inside}
use Rattle.redl_idle.proofs.walk.show_empty.Goals as goal

pub enter-requires : goal.enter-requires
enter-requires g c = none_ahead

pub returns-in_err-inside : goal.returns-in_err-inside
returns-in_err-inside g c =
    takes_fails g.S.Shows.taking ((g.S.Shows.rule).end ((g.S.Shows.rule).inside c.args.below.now c.args.local.now c.args.tail.now no_nodes)) refl c.from_residual.ensures.1 (c.in_err-inside.ensures.puts none_ahead)

pub returns : goal.returns
returns g c =
    takes_then g.S.Shows.taking (element-inside g.S.Shows.taking g.S.Shows.rule c.args.below.now c.args.local.now c.args.tail.now no_nodes c.in_ok-inside.inside (c.in_ok-inside.ensures.inside none_ahead))
    (c.in_ok-inside.ensures.puts none_ahead) c.leave.ensures
