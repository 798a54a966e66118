use Rattle.std.proofs.Common.{ap, ◌∙◌}
use Rattle.redl_rules.specs.Keeping.{least_broken}
use Rattle.redl_rules.proofs.KeptLaws.{least-broken}
use Rattle.redl_rules.proofs.soundness.broken_rule.Goals as goal

pub returns : goal.returns
returns c = c.least_broken.ensures ∙ ap least_broken c.kept_by_stories.ensures ∙ least-broken c.args.pkg.now
