-- What a package is that was numbered: one that a session or an editor can begin with.
use Rattle.std.specs.Prelude.{◌≡◌, [], true}
use Rattle.redl_tree.specs.Decisions.Packages.{roots_are_plain}
use Rattle.redl_tree.specs.Model.Nodes.{Nodes}
use Rattle.redl_tree.specs.Revisions.Labels.{unlabelled}
use Rattle.redl_rules.specs.Attributes.{broken_rule}
use Rattle.redl_index.specs.Numbers.{numbered_package}
use Rattle.redl_index.specs.Revisions.{revisions_of}

-- Numbering it again changes nothing, and it has the revisions of the original and breaks the same rule of structure, if any.
-- Where the original had no labels, as one that was read, the roots of its stories are in no revision.
pub record IsNumberedFrom (original made : Nodes) : Type 0 where
  pub again : numbered_package made ≡ made
  pub revisions : revisions_of made ≡ revisions_of original
  pub rule : broken_rule made ≡ broken_rule original
  pub plain : unlabelled original ≡ original → roots_are_plain [] made ≡ true
