use Rattle.std.proofs.Common.{◌∙◌, ap, sym, arith}
use Rattle.std.proofs.lemmas.List.{drop-set, drop_more}
use Rattle.redl_views.specs.Ways.{put_first}
use Rattle.redl_views.proofs.ways.put_step.Goals as goal

pub returns-then-level-way-clause-way : goal.returns-then-level-way-clause-way
returns-then-level-way-clause-way c =
    drop-set c.args.way.now c.args.level c.args.step (omega arith)
    ∙ sym (ap (put_first c.args.step) (drop_more c.args.way.now c.args.level 0 (omega arith)))
