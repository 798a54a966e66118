-- A text that is read as a sound package, within the limits, and one that has so many revisions.
use Rattle.std.specs.Prelude.{◌≡◌, ◌≤◌, ℕ, List, None}
use Rattle.redl_io.specs.Limits.{depth as depth_limit, nodes as node_limit}
use Rattle.redl_opc.specs.Shape.{refusal}
use Rattle.redl_rules.specs.Attributes.{broken_rule}
use Rattle.redl_tree.specs.Model.Count.{count}
use Rattle.redl_stamp.specs.Attribute.{attribute_value}
use Rattle.redl_tree.specs.Model.Nodes.{Nodes}
use Rattle.redl_tree.specs.Revisions.Numbers.{package_revisions_by}
use Rattle.redl_xml.specs.Readings.{IsReading}
use Rattle.redl_xml.specs.Shapes.{depth_of}

-- the text has a tree within the limits of depth and of nodes, which is a package and breaks no rule
pub record HasSoundPackage (text : List ℕ) : Type 0 where
  pub nodes : Nodes
  pub reading : IsReading text nodes
  pub shallow : depth_of nodes ≤ depth_limit
  pub few : count nodes ≤ node_limit
  pub shape : refusal nodes ≡ None
  pub sound : broken_rule nodes ≡ None

-- the text has a tree, and its members are of so many revisions
pub record HasRevisions (text : List ℕ) (count : ℕ) : Type 0 where
  pub nodes : Nodes
  pub reading : IsReading text nodes
  pub counted : package_revisions_by attribute_value nodes ≡ count
