use Rattle.std.proofs.Common.{◌≡◌, map}
use Rattle.std.specs.List.{range_with_len}
use Rattle.redl_join.specs.Verdicts.{verdict_at}
use Rattle.redl_session.proofs.says.verdicts.Given as goal

abbrev pub invariant-loop-before : goal.invariant-loop-before
invariant-loop-before l = l.verdicts.items ≡ map (verdict_at l.book) (range_with_len 1 l.before)
