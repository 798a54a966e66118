use Rattle.std.proofs.Common.{◌≡◌, map, take}
use Rattle.std.specs.Map.Iter.{deref}
use Rattle.redl_report.proofs.reviewers.own_book.Given as goal

-- the book has the entries so far
abbrev pub invariant-loop-entry : goal.invariant-loop-entry
invariant-loop-entry l = l.book ≡ map deref (take l.entry-index l.own)
