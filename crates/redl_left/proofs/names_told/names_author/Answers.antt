-- What bytes end with is what they begin with the last one first.
use Rattle.std.proofs.Common.{sym, ◌∙◌}
use Rattle.redl_left.proofs.FrontLaws.{author_ends}
use Rattle.redl_left.proofs.names_told.names_author.Goals as goal

pub returns : goal.returns
returns c = λ ends. λ before. author_ends c.args.front.now before (sym c.ends_with.ensures.value ∙ ends)
