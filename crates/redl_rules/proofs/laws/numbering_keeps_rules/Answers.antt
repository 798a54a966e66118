use Rattle.redl_tree.proofs.Revisions.NumberLaws.{broken-numbered}
use Rattle.redl_rules.specs.Attributes.{has_id, declares}
use Rattle.redl_rules.proofs.laws.numbering_keeps_rules.Goals as goal

pub returns : goal.returns
returns c = λ value nodes. broken-numbered value has_id declares nodes
