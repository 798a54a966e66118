use Rattle.redl_join.proofs.Unions.{without-with}
use Rattle.redl_join.proofs.laws.removal_undoes_addition.Goals as goal

pub returns : goal.returns
returns c = without-with
