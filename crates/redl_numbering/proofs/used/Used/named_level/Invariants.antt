use Rattle.std.proofs.Common.{◌≡◌, ◌-◌}
use Rattle.redl_numbering.specs.Nums.{named_from}
use Rattle.redl_numbering.proofs.used.Used.named_level.Given as goal

-- the first level that names it is among those that are left
abbrev pub invariant-loop-level : goal.invariant-loop-level
invariant-loop-level l = named_from l.self.overrides.now l.self.levels.now l.id l.level (9 - l.level) ≡ named_from l.self.overrides.now l.self.levels.now l.id 0 9
