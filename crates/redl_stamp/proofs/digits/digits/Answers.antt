use Rattle.std.proofs.Common.{rules}
use Rattle.redl_stamp.specs.Moment.{is_decimal}
use Rattle.redl_stamp.proofs.digits.digits.Goals as goal

pub returns-clause-front : goal.returns-clause-front
returns-clause-front c = c.run.ensures.front is_decimal (λ b t low k. search rules)

pub returns-clause-rest : goal.returns-clause-rest
returns-clause-rest c = c.run.ensures.rest is_decimal (λ b t low k. search rules)
