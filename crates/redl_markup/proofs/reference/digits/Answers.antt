use Rattle.std.proofs.Common.{rules}
use Rattle.redl_grammar.specs.References.{is_digit_in}
use Rattle.redl_markup.proofs.reference.digits.Goals as goal

pub returns-clause-front : goal.returns-clause-front
returns-clause-front c = c.run.ensures.front (is_digit_in c.args.base) (λ b t low k. search rules)

pub returns-clause-rest : goal.returns-clause-rest
returns-clause-rest c = c.run.ensures.rest (is_digit_in c.args.base) (λ b t low k. search rules)
