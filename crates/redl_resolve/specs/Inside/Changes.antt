-- The rejected change of a list of kids, as the code holds it.
use Rattle.std.specs.Prelude.{ℕ, List, Option, Some, None, Vec, ◌&&◌, not, if◌then◌else◌}
use Rattle.std.specs.Global.{Global}
use Rattle.redl_tree.specs.Decisions.Fates.{fate_of}
use Rattle.redl_tree.specs.Roles.Kinds.{is_restore}
use Rattle.redl_tree.specs.Model.Nodes.{Tag, Nodes, Item, bytes_item, element_item, idle_item}
use Rattle.redl_tree.specs.Decisions.Restored.{Rejected, rejected_as, restored, is_uncovered}
use Rattle.redl_tree.specs.Roles.Names.{is, named}
use Rattle.redl_tree.specs.Model.Kids.{without}
use Rattle.redl_tree.specs.declared.kinds.Prop.TheVariants.{Run}
use Rattle.redl_resolve.specs.declared.rounds.Round.{Round}
use Rattle.redl_tree.specs.Model.View.{nodes_of}
use Rattle.redl_tree.specs.declared.kinds.Say.{Say}
use Rattle.redl_tree.specs.declared.node.Node.{Node}
use Rattle.redl_resolve.specs.declared.changes.Former.{Former}

abbrev pub former_of : Option Former → Option Rejected
former_of None = None
former_of (Some former) = Some (record { prop = former.prop; former = nodes_of former.kids.items })

-- a node by itself is a change that is rejected
abbrev pub elem_rejected : List Say → Tag → Nodes → Option Rejected
elem_rejected says tag kids = rejected_as (is_restore (fate_of says tag)) tag.kind kids None

abbrev pub item_rejected : List Say → Item → Option Rejected
item_rejected says (bytes_item b) = None
item_rejected says (idle_item t) = None
item_rejected says (element_item tag kids) = elem_rejected says tag kids

-- copies of former kids, where there are some
abbrev pub copies_of : Option (Vec Node Global) → Option Nodes
copies_of None = None
copies_of (Some copies) = Some (nodes_of copies.items)

-- the former kids that a node by itself holds
abbrev pub item_former : List ℕ → Item → Option Nodes
item_former name (bytes_item b) = None
item_former name (idle_item t) = None
item_former name (element_item tag kids) = if named name tag then Some kids else None

-- the same as `after_change`, given a summary of the ancestors
abbrev pub present_in : Round → Tag → Nodes → Nodes
present_in round tag kids = if is "rPr" tag && not round.para_props then without (is_uncovered Run) kids else kids

abbrev pub after_in : Round → Tag → Option Rejected → Nodes → Nodes
after_in round tag None passed = passed
after_in round tag (Some change) passed = restored change.prop (present_in round tag passed) change.former
