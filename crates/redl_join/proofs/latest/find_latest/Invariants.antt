use Rattle.std.proofs.Common.{◌≡◌, filter}
use Rattle.redl_join.specs.Inside.Latest.{latest_from, latest_words, is_by}
use Rattle.redl_join.proofs.latest.find_latest.Given as goal

abbrev pub invariant-loop-entry : goal.invariant-loop-entry
invariant-loop-entry l =
    latest_from l.latest (filter (is_by l.rev l.reviewer) l.entry-iterator) ≡ latest_words l.entries l.rev l.reviewer
