use Rattle.std.proofs.Common.{ap, sym, arith}
use Rattle.std.proofs.lemmas.List.{drop_more}
use Rattle.redl_views.specs.Ways.{tail}
use Rattle.redl_views.proofs.ways.level_below.Goals as goal

pub returns-then-level-way : goal.returns-then-level-way
returns-then-level-way c = λ later same. sym (ap tail (drop_more later c.args.level 0 (omega (arith, same))))
