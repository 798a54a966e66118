use Rattle.std.proofs.Common.{length, ℕ, List, []}
use Rattle.redl_left.specs.Fronts.{back, QuotesPass}
use Rattle.redl_left.specs.Search.{table_of}
use Rattle.redl_left.proofs.names_told.quotes_pass.Given as goal

-- behind some bytes, all quotes pass where those pass that are left
abbrev pub invariant-loop-rest : goal.invariant-loop-rest
invariant-loop-rest l = (before : List ℕ) × (QuotesPass (table_of l.search) (back l.front before) l.left → QuotesPass (table_of l.search) [] l.tail)

abbrev pub decreases-loop-rest : goal.decreases-loop-rest
decreases-loop-rest l = length l.left
