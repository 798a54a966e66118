use Rattle.std.proofs.Common.{refl}
use Rattle.redl_page_numbers.proofs.put_levels.picture_end.Goals as goal

pub returns-in-true : goal.returns-in-true
returns-in-true c = rw c.in-true.is refl

pub returns-in-false : goal.returns-in-false
returns-in-false c = rw c.in-false.is refl
