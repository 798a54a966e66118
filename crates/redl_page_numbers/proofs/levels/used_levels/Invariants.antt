use Rattle.std.proofs.Common.{◌≡◌}
use Rattle.redl_page_numbers.specs.Levels.{gathered, num_levels}
use Rattle.redl_page_numbers.proofs.levels.used_levels.Given as goal

abbrev pub invariant-loop-place : goal.invariant-loop-place
invariant-loop-place l = l.rows.items ≡ gathered (num_levels l.tables l.used) l.place
