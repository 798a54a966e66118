use Rattle.std.proofs.Common.{◌∙◌}
use Rattle.redl_rules.specs.Attributes.{broken_rule}
use Rattle.redl_calls_tests.proofs.Starts.{numbered_again, revisions_again, rules_again, unbroken}
use Rattle.redl_calls_tests.proofs.session.session_of.Goals as goal

pub start-requires-clause-numbered : goal.start-requires-clause-numbered
start-requires-clause-numbered c = numbered_again c.in_ok-pkg.pkg c.build.new.pkg c.in_ok-index.ensures.nodes

pub start-requires-clause-index : goal.start-requires-clause-index
start-requires-clause-index c = c.in_ok-index.ensures.index ∙ revisions_again c.in_ok-pkg.pkg c.build.new.pkg c.in_ok-index.ensures.nodes

pub start-requires-clause-sound : goal.start-requires-clause-sound
start-requires-clause-sound c =
    rules_again c.in_ok-pkg.pkg c.build.new.pkg c.in_ok-index.ensures.nodes (unbroken (broken_rule c.in_ok-pkg.pkg) c.in_ok-check.ensures)
