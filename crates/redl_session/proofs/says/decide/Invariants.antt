use Rattle.std.proofs.Common.{◌≡◌, length, map, take}
use Rattle.std.specs.List.{range_with_len}
use Rattle.redl_join.specs.Verdicts.{verdict_at}
use Rattle.redl_session.specs.Says.{say_of_verdict}
use Rattle.redl_session.proofs.says.decide.Given as goal

-- the says so far are the book's
abbrev pub invariant-loop-before : goal.invariant-loop-before
invariant-loop-before l = record {
  same_length : length l.says.items ≡ l.count;
  decided : take l.before l.says.items ≡ map (λ rev. say_of_verdict (verdict_at l.book rev)) (range_with_len 1 l.before);
}
