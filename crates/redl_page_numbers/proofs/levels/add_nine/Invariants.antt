use Rattle.std.proofs.Common.{◌≡◌, ◌++◌}
use Rattle.redl_page_numbers.specs.Levels.{gathered, level_rows}
use Rattle.redl_page_numbers.proofs.levels.add_nine.Given as goal

abbrev pub invariant-loop-level : goal.invariant-loop-level
invariant-loop-level l = l.rows.items ≡ l.initial.rows.items ++ gathered (level_rows l.place l.used.overrides.now l.used.levels.now) l.level
