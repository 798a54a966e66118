use Rattle.redl_stamp.proofs.AttributeLaws.{value_of_the_first}
use Rattle.redl_stamp.proofs.laws.value_of_the_first.Goals as goal

pub returns : goal.returns
returns c = value_of_the_first
