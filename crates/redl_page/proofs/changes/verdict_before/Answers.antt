use Rattle.std.proofs.Common.{refl}
use Rattle.redl_page.proofs.changes.verdict_before.Goals as goal

pub returns-in-Undecided : goal.returns-in-Undecided
returns-in-Undecided c = rw c.in-Undecided.is refl

pub returns-in-Accept : goal.returns-in-Accept
returns-in-Accept c = rw c.in-Accept.is refl

pub returns-in-Reject : goal.returns-in-Reject
returns-in-Reject c = rw c.in-Reject.is refl

pub returns-in-Disputed : goal.returns-in-Disputed
returns-in-Disputed c = rw c.in-Disputed.is refl
