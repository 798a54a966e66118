-- A package that was read and then numbered: its revisions have their numbers, and the roots of its stories have no role.
use Rattle.std.proofs.Common.{◌≡◌, List, [], ℕ, true}
use Rattle.redl_editor.specs.Documents.{IsNumbered}
use Rattle.redl_index.specs.Numbers.{numbered_package}
use Rattle.redl_stamp.specs.Attribute.{attribute_value}
use Rattle.redl_index.proofs.RootLaws.{roots-numbered}
use Rattle.redl_tree.proofs.Revisions.NumberLaws.{numbered-indexed}
use Rattle.redl_tree.specs.Decisions.Packages.{roots_are_plain}
use Rattle.redl_tree.specs.Model.Nodes.{Nodes}
use Rattle.redl_xml.proofs.Unlabelled.{reading-unlabelled}
use Rattle.redl_xml.specs.Readings.{IsReading}

pub has-numbers : (pkg nodes : Nodes) → pkg ≡ numbered_package nodes → IsNumbered pkg
has-numbers pkg nodes is = record { value = attribute_value; indexed = rw is (numbered-indexed attribute_value nodes) }

pub has-plain-roots : (text : List ℕ) (pkg nodes : Nodes) → pkg ≡ numbered_package nodes → IsReading text nodes → roots_are_plain [] pkg ≡ true
has-plain-roots text pkg nodes is reading = rw is (roots-numbered attribute_value nodes (reading-unlabelled text nodes reading))
