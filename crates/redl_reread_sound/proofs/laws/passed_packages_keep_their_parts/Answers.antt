use Rattle.redl_reread_sound.proofs.Parts.{parts-changed, refusal-changed}
use Rattle.redl_tree.specs.Decisions.Packages.{pass_rule}
use Rattle.redl_reread_sound.proofs.laws.passed_packages_keep_their_parts.Goals as goal

pub returns : goal.returns
returns c = record { shape = λ says nodes. refusal-changed pass_rule says nodes; parts = λ says nodes. parts-changed pass_rule says nodes }
