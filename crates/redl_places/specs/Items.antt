-- The members in one node of a list.
use Rattle.std.specs.Prelude.{List, [], ◌++◌}
use Rattle.redl_tree.specs.Model.Nodes.{Tag, Nodes, Item, bytes_item, element_item, idle_item}
use Rattle.redl_places.specs.Places.{Signs, member_places, own_place, place_in}
use Rattle.redl_places.specs.declared.place.StoryPlace.{StoryPlace}
use Rattle.redl_places.specs.declared.place.MemberPlace.{MemberPlace}

abbrev pub element_places : Signs → StoryPlace → Tag → Nodes → List MemberPlace
element_places signs here tag kids = own_place here tag ++ member_places signs (place_in signs here tag) kids

-- no idle element is a member
abbrev pub item_places : Signs → StoryPlace → Item → List MemberPlace
item_places signs here (bytes_item b) = []
item_places signs here (element_item tag kids) = element_places signs here tag kids
item_places signs here (idle_item t) = []
