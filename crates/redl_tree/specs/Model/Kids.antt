-- Words on the elements of one list of nodes, none of which looks below the kids that it names.
use Prim.Native.String.{String}
use Rattle.std.specs.Prelude.{Bool, true, false, ◌||◌, if◌then◌else◌}
use Rattle.redl_tree.specs.Model.IdleTexts.{idle_nodes}
use Rattle.redl_tree.specs.Model.Nodes.{Tag, Nodes, no_nodes, bytes, element, Item, bytes_item, element_item, idle_item, ◌⊕◌}
use Rattle.redl_tree.specs.Roles.Names.{is}

-- some element among these has such a tag
abbrev pub some_element : (Tag → Bool) → Nodes → Bool
some_element test no_nodes = false
some_element test (bytes b rest) = some_element test rest
some_element test (element tag kids rest) = test tag || some_element test rest

-- there is an element among these
abbrev pub has_element : Nodes → Bool
has_element nodes = some_element (λ tag. true) nodes

-- the elements with such a tag, and nothing else
abbrev pub only : (Tag → Bool) → Nodes → Nodes
only test no_nodes = no_nodes
only test (bytes b rest) = only test rest
only test (element tag kids rest) = if test tag then element tag kids (only test rest) else only test rest

-- all but the elements with such a tag
abbrev pub without : (Tag → Bool) → Nodes → Nodes
without test no_nodes = no_nodes
without test (bytes b rest) = bytes b (without test rest)
without test (element tag kids rest) = if test tag then without test rest else element tag kids (without test rest)

-- the kids of all elements with this name
abbrev pub kids_of_all : String → Nodes → Nodes
kids_of_all name no_nodes = no_nodes
kids_of_all name (bytes b rest) = kids_of_all name rest
kids_of_all name (element tag kids rest) =
    if is name tag then kids ⊕ kids_of_all name rest else kids_of_all name rest

-- the node is an element with such a tag, or one of those that are kept as a text is
abbrev pub item_is : (Tag → Bool) → Item → Bool
item_is test (bytes_item b) = false
item_is test (element_item tag kids) = test tag
item_is test (idle_item t) = some_element test (idle_nodes t)
