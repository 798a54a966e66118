use Rattle.std.proofs.Common.{◌≡◌, replicate, None}
use Rattle.redl_clauses.proofs.walked.untold.Given as goal

abbrev pub invariant-loop : goal.invariant-loop
invariant-loop l = l.told.items ≡ replicate l.counter None
