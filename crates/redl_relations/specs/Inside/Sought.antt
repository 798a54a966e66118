-- What is sought among elements, as code keeps it.
use Rattle.std.specs.Prelude.{Bool}
use Rattle.redl_tree.specs.Model.Nodes.{Tag}
use Rattle.redl_relations.specs.Relations.{is_xml_data, is_relations, has_type, has_id}
use Rattle.redl_relations.specs.declared.sought.Sought.{Sought}
use Rattle.redl_relations.specs.declared.sought.Sought.TheVariants.{Data, Relations, OfType, WithId}

abbrev pub is_sought : Sought → Tag → Bool
is_sought Data tag = is_xml_data tag
is_sought Relations tag = is_relations tag
is_sought (OfType ending) tag = has_type ending.now tag
is_sought (WithId id) tag = has_id id.now tag
