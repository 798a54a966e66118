use Rattle.std.proofs.Common.{◌∙◌}
use Rattle.redl_join.proofs.NumbersOf.{find_some, find_none}
use Rattle.redl_join.proofs.numbers.find_number.Goals as goal

pub returns-clause-found : goal.returns-clause-found
returns-clause-found c = find_some c.args.numbers.now.entries c.args.reviewer.now c.copied.result (c.copied.ensures ∙ c.get.ensures.value)

pub returns-clause-none : goal.returns-clause-none
returns-clause-none c = find_none c.args.numbers.now.entries c.args.reviewer.now c.copied.result (c.copied.ensures ∙ c.get.ensures.value)
