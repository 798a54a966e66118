use Rattle.std.proofs.Common.{rules}
use Rattle.redl_reading.specs.Lists.{is_other}
use Rattle.redl_reading.proofs.scan.until.Goals as goal

pub returns-clause-front : goal.returns-clause-front
returns-clause-front c = c.run.ensures.front (is_other c.args.byte) (λ b t low k. search rules)

pub returns-clause-rest : goal.returns-clause-rest
returns-clause-rest c = c.run.ensures.rest (is_other c.args.byte) (λ b t low k. search rules)
