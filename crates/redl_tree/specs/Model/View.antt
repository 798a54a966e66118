-- The model of a `Node`, of an `Elem` and of a list of nodes.
use Rattle.std.specs.Prelude.{List, [], map, Option, Some, None, ℕ}
use denote.Ref.{Bor}
use Rattle.redl_tree.specs.Model.Starts.{Start}
use Rattle.redl_tree.specs.Model.Nodes.{Close, Empty, End, Tag, Nodes, no_nodes, Item, bytes_item, element_item, idle_item, from_items}
use Rattle.redl_tree.specs.declared.node.Body.{Body, fold-Body}
use Rattle.redl_tree.specs.declared.node.Body.TheOpen.{Body-F, Node-F, Elem-F, Spaced-F}
use Rattle.redl_tree.specs.declared.node.Node.{Node, fold-Node}
use Rattle.redl_tree.specs.declared.node.Elem.{Elem}
use Rattle.redl_tree.specs.declared.node.Spaced.{Spaced, fold-Spaced}

-- an element's tag and its kids
pub record Element : Type 0 where
  pub tag : Tag
  pub kids : Nodes

-- an element's kids and how it is closed
pub record Held : Type 0 where
  pub kids : Nodes
  pub close : Close

-- the tag of an element with this start tag that is closed so
abbrev pub tagged : Start → Close → Tag
tagged start close = record {
  prefix = start.prefix;
  local = start.local;
  space = start.space;
  tail = start.tail;
  close = close;
  kind = start.kind;
  rev = start.rev;
}

-- one level, with each node inside already seen as its model
abbrev pub body_step : Body-F Held Item Element Held → Held
body_step Body-F.Empty = record { kids = no_nodes; close = Empty }
body_step (Body-F.Kids kids) = record { kids = from_items kids.items; close = End [] }
body_step (Body-F.Spaced spaced) = spaced.value

abbrev pub node_step : Node-F Held Item Element Held → Item
node_step (Node-F.Elem e) = element_item e.tag e.kids
node_step (Node-F.Bytes b) = bytes_item b.now
node_step (Node-F.Plain text) = idle_item text

abbrev pub elem_step : Elem-F Held Item Element Held → Element
elem_step e = record { tag = tagged e.tag e.body.close; kids = e.body.kids }

abbrev pub spaced_step : Spaced-F Held Item Element Held → Held
spaced_step s = record { kids = from_items s.kids.items; close = End s.white.now }

-- the model of one node
abbrev pub item_of : Node → Item
item_of = fold-Node Held Item Element Held body_step node_step elem_step spaced_step

-- the model of a list of nodes
abbrev pub nodes_of : List Node → Nodes
nodes_of ns = from_items (map item_of ns)

-- the model of what an element holds
abbrev pub held_of : Body → Held
held_of = fold-Body Held Item Element Held body_step node_step elem_step spaced_step

-- the same of kids with white space
abbrev pub spaced_of : Spaced → Held
spaced_of = fold-Spaced Held Item Element Held body_step node_step elem_step spaced_step

-- all of an element but its kids
abbrev pub tag_of : Elem → Tag
tag_of e = tagged e.tag (held_of e.body).close

-- the model of an element's kids
abbrev pub kids_of : Elem → Nodes
kids_of e = (held_of e.body).kids

-- closed by `/>` where there is no white space, else by an end tag with it
abbrev pub close_of : Option (Bor (List ℕ)) → Close
close_of None = Empty
close_of (Some space) = End space.now
