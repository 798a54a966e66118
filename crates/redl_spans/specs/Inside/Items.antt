-- The walk over one node, and the members in one node.
use Rattle.std.specs.Prelude.{Bool, List, [], ◌++◌, if◌then◌else◌}
use Rattle.redl_tree.specs.Model.IdleTexts.{idle_nodes}
use Rattle.redl_tree.specs.Model.Nodes.{Item, bytes_item, element_item, idle_item}
use Rattle.redl_tree.specs.Roles.Places.{is_quiet}
use Rattle.redl_spans.specs.Members.{members, own_member}
use Rattle.redl_spans.specs.Units.{text_steps}
use Rattle.redl_spans.specs.Walks.{Walk, element_walked, stepped, walked}
use Rattle.redl_spans.specs.declared.member.Member.{Member}

abbrev pub item_walked : Bool → Item → Walk → Walk
item_walked in_text (bytes_item b) w = stepped (text_steps in_text b) w
item_walked in_text (element_item tag kids) w = element_walked tag kids w
item_walked in_text (idle_item t) w = walked in_text (idle_nodes t) w

-- no idle element is a member
abbrev pub item_members : Item → List Member
item_members (bytes_item b) = []
item_members (element_item tag kids) = own_member tag ++ members kids
item_members (idle_item t) = []

abbrev pub item_property_members : Item → List Member
item_property_members (bytes_item b) = []
item_property_members (element_item tag kids) = if is_quiet tag then members kids else []
item_property_members (idle_item t) = []
