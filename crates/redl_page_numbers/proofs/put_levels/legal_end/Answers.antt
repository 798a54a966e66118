use Rattle.std.proofs.Common.{refl}
use Rattle.redl_page_numbers.proofs.put_levels.legal_end.Goals as goal

pub returns-in-true : goal.returns-in-true
returns-in-true c = rw c.in-true.is refl
