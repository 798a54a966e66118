use Rattle.redl_join.proofs.Unions.{one_union}
use Rattle.redl_join.proofs.laws.same_union.Goals as goal

pub returns : goal.returns
returns c = one_union
