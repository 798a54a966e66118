-- Changed stories a node at a time, as code goes over the nodes of a package. `ancestors` is the list of the tags of the ancestors.
use Rattle.std.specs.Prelude.{List, [], ◌∷◌, if◌then◌else◌}
use Rattle.redl_tree.specs.Model.Nodes.{Tag, Nodes, Item, bytes_item, element_item, idle_item}
use Rattle.redl_tree.specs.Model.View.{Element}
use Rattle.redl_tree.specs.Decisions.Packages.{is_root, element_stories, StoryRule, changed_in}

-- the kids of an element: those that the rule gives where it is the root of a story, and else themselves with the stories in
-- them changed
abbrev pub changed_kids : {S : Type 0} → StoryRule S → S → List Tag → Tag → Nodes → Nodes
changed_kids rule given ancestors tag kids =
    if is_root ancestors tag then rule.kids given tag kids else changed_in rule given (tag ∷ ancestors) kids

-- one node
abbrev pub changed_item : {S : Type 0} → StoryRule S → S → List Tag → Item → Item
changed_item rule given ancestors (bytes_item b) = bytes_item b
changed_item rule given ancestors (idle_item t) = idle_item t
changed_item rule given ancestors (element_item tag kids) = element_item tag (changed_kids rule given ancestors tag kids)

-- the stories in one node
abbrev pub item_stories : List Tag → Item → List Element
item_stories ancestors (bytes_item b) = []
item_stories ancestors (idle_item t) = []
item_stories ancestors (element_item tag kids) = element_stories ancestors tag kids
