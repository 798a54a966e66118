use Rattle.std.proofs.Common.{◌≡◌, ◌++◌, drop}
use Rattle.std.specs.Prelude.{filter}
use Rattle.redl_left.specs.Search.{may_ask}
use Rattle.redl_left.proofs.search.rows_of.Given as goal

-- the rows so far, and then those that are left
abbrev pub invariant-loop-row : goal.invariant-loop-row
invariant-loop-row l = l.own.items ++ filter (may_ask l.size) (drop l.row-index l.rows) ≡ filter (may_ask l.size) l.rows
