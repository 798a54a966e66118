-- What a check answers.
use Rattle.std.specs.Prelude.{ℕ, Option, Some, None, Result, Ok, Err}
use Rattle.redl_rules.specs.declared.soundness.RuleError.{RuleError}
use Rattle.redl_rules.specs.declared.soundness.RuleError.TheVariants.{Broken}

-- the answer where this is the least broken rule
abbrev pub answer_of : Option ℕ → Result Unit RuleError
answer_of None = Ok tt
answer_of (Some rule) = Err (Broken rule)
