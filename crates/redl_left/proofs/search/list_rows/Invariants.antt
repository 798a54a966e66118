use Rattle.std.proofs.Common.{◌-◌, ◌+◌, ℕ, map, vec_len}
use Rattle.redl_left.specs.Search.{Agree, rows_at}
use Rattle.redl_left.specs.declared.search.TheConstants.{LONGEST}
use Rattle.redl_left.proofs.search.list_rows.Given as goal

abbrev pub decreases-loop-alloc : goal.decreases-loop-alloc
decreases-loop-alloc l = LONGEST + 1 - vec_len l.lists

abbrev pub invariant-loop-alloc : goal.invariant-loop-alloc
invariant-loop-alloc l = (n : ℕ) → Agree l.rows n (rows_at (map (λ own. own.items) l.lists.items) l.rows n)
