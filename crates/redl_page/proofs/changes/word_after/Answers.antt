use Rattle.std.proofs.Common.{refl}
use Rattle.redl_page.proofs.changes.word_after.Goals as goal

pub returns-in-Accept : goal.returns-in-Accept
returns-in-Accept c = rw c.in-Accept.is refl

pub returns-in-Reject : goal.returns-in-Reject
returns-in-Reject c = rw c.in-Reject.is refl

pub returns-in-Withdraw : goal.returns-in-Withdraw
returns-in-Withdraw c = rw c.in-Withdraw.is refl
