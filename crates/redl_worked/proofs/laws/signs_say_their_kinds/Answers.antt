use Rattle.redl_worked.proofs.Signs.{are_signs}
use Rattle.redl_worked.proofs.laws.signs_say_their_kinds.Goals as goal

pub returns : goal.returns
returns c = are_signs
