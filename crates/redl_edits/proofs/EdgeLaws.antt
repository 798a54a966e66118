-- Edges among nodes one after the other.
use Rattle.std.proofs.Common.{◌≡◌, ◌∙◌, ap, Bool, ◌||◌}
use Rattle.std.specs.List.{list_any}
use Rattle.std.proofs.lemmas.List.Folds.{list_any-append}
use Rattle.redl_spans.proofs.MemberLaws.{members-in_front, property-in_front}
use Rattle.redl_spans.specs.Inside.Items.{item_members, item_property_members}
use Rattle.redl_spans.specs.Members.{has_own_edge, members, property_members}
use Rattle.redl_tree.specs.Model.Nodes.{Nodes, Item, in_front}

-- whether nodes have one, and their properties
abbrev pub edges : Nodes → Bool
edges nodes = list_any has_own_edge (members nodes)

abbrev pub item_edges : Item → Bool
item_edges x = list_any has_own_edge (item_members x)

pub edges-in_front : (x : Item) (rest : Nodes) → edges (in_front x rest) ≡ (item_edges x || edges rest)
edges-in_front x rest = ap (list_any has_own_edge) (members-in_front x rest) ∙ list_any-append has_own_edge (item_members x) (members rest)

abbrev pub own_edges : Nodes → Bool
own_edges nodes = list_any has_own_edge (property_members nodes)

abbrev pub item_own_edges : Item → Bool
item_own_edges x = list_any has_own_edge (item_property_members x)

pub own_edges-in_front : (x : Item) (rest : Nodes) → own_edges (in_front x rest) ≡ (item_own_edges x || own_edges rest)
own_edges-in_front x rest = ap (list_any has_own_edge) (property-in_front x rest) ∙ list_any-append has_own_edge (item_property_members x) (property_members rest)
