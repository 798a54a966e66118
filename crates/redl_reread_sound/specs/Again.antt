-- What a pass leaves of a package, as it is read again (our own rule: a second round begins with what the first one wrote).
use Rattle.std.specs.Prelude.{◌≡◌, ◌≤◌, ◌*◌, ℕ, true, false, List}
use Rattle.redl_opc.specs.Shape.{refusal}
use Rattle.redl_reread_sound.specs.Together.{together, meet_well}
use Rattle.redl_rules.specs.Attributes.{rules}
use Rattle.redl_stamp.specs.Attribute.{attribute_value}
use Rattle.redl_tree.specs.Decisions.Packages.{pass_package}
use Rattle.redl_tree.specs.Model.Count.{count}
use Rattle.redl_tree.specs.Model.Nodes.{Nodes}
use Rattle.redl_tree.specs.Model.Shapes.{depth_of}
use Rattle.redl_tree.specs.Model.Text.{text}
use Rattle.redl_tree.specs.Revisions.Labels.{unlabelled}
use Rattle.redl_tree.specs.Revisions.Numbers.{numbered_package_by}
use Rattle.redl_tree.specs.Rules.Sound.{is_sound}
use Rattle.redl_tree.specs.declared.kinds.Say.{Say}
use Rattle.redl_xml.specs.Readings.{IsReading, HasNoReading}

-- what a pass leaves of a package under these says
abbrev pub left : List Say → Nodes → Nodes
left says nodes = pass_package says (numbered_package_by attribute_value nodes)

-- the same as its text is read: neighbouring stretches are one, and what is undecided has no label yet
abbrev pub again : Nodes → Nodes
again nodes = unlabelled (together nodes)

-- The text of what is left has one tree, that of what is left. It has the shape of a package, keeps the rules of structure, has no more nodes
-- than the original, and is at most twice as deep.
pub record IsReread (says : List Say) (nodes : Nodes) : Type 0 where
  pub reading : IsReading (text (left says nodes)) (again (left says nodes))
  pub shape : refusal (again (left says nodes)) ≡ refusal nodes
  pub sound : is_sound rules (again (left says nodes)) ≡ true
  pub few : count (again (left says nodes)) ≤ count nodes
  pub shallow : depth_of (again (left says nodes)) ≤ 2 * depth_of nodes

-- So it is with what was read as a sound package, after a pass under any says, where no stretches that meet form `]]>`. How deep its
-- elements are nested and how long its text is may grow, so the limits of these are asked anew.
abbrev pub AreReread : Type 0
AreReread =
    (whole : List ℕ) (nodes : Nodes) (says : List Say) → IsReading whole nodes → is_sound rules nodes ≡ true
    → meet_well (left says nodes) ≡ true → IsReread says nodes

-- And where some stretches that meet form `]]>`, the text of what is left has no tree: so that is exactly where it can't be read again.
abbrev pub AreNotReread : Type 0
AreNotReread =
    (whole : List ℕ) (nodes : Nodes) (says : List Say) → IsReading whole nodes → is_sound rules nodes ≡ true
    → meet_well (left says nodes) ≡ false → HasNoReading (text (left says nodes))
