use Rattle.std.proofs.Common.{ap, ◌∙◌}
use Rattle.redl_sittings.specs.SecondNumbers.{part_numbers}
use Rattle.redl_tree.specs.Model.Text.{text}
use Rattle.redl_tree.specs.Model.View.{nodes_of}
use Rattle.redl_commands_resume.proofs.resume.pass_on.Goals as goal

pub returns-clause-numbers : goal.returns-clause-numbers
returns-clause-numbers c = c.in_ok-numbers.ensures ∙ ap part_numbers (ap nodes_of c.deref.ensures.value ∙ c.in_ok-nodes.ensures.passed)

pub returns-clause-text : goal.returns-clause-text
returns-clause-text c = c.in_ok-text.ensures ∙ ap text (ap nodes_of c.deref-2.ensures.value ∙ c.in_ok-nodes.ensures.passed)
