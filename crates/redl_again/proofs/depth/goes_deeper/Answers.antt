use Rattle.std.proofs.Common.{◌∙◌, ap, arith}
use Rattle.redl_tree.specs.Model.IdleTexts.{idle_nodes}
use Rattle.redl_again.proofs.DepthLaws.{met-idle, passes-few}
use Rattle.redl_again.specs.declared.depth.Met.{Met}
use Rattle.redl_again.proofs.depth.goes_deeper.Goals as goal

pub returns-then-elems-levels : goal.returns-then-elems-levels
returns-then-elems-levels c = passes-few c.args.levels (idle_nodes c.args.plain.now) (omega (arith, c.elems.ensures, c.if-elems-levels.true))

pub returns : goal.returns
returns c = ap (λ (m : Met). m.deeper) c.in-Ok.ensures ∙ met-idle (record { levels = c.args.levels }) c.args.plain.now
