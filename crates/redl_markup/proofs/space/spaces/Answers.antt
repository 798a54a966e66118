use Rattle.std.proofs.Common.{rules}
use Rattle.redl_grammar.specs.Characters.{is_space}
use Rattle.redl_markup.proofs.space.spaces.Goals as goal

pub returns-clause-front : goal.returns-clause-front
returns-clause-front c = c.run.ensures.front is_space (λ b t low k. search rules)

pub returns-clause-rest : goal.returns-clause-rest
returns-clause-rest c = c.run.ensures.rest is_space (λ b t low k. search rules)
