-- Tables of parts by their names, and of where relationships lead by their ids.
use Rattle.std.specs.Prelude.{ℕ, List, Option, Some, None, if◌then◌else◌}
use Rattle.std.specs.Option.{option_map}
use Rattle.std.specs.BTreeMap.{get_by}
use Rattle.std.specs.Cmp.Lexicographic.{slice_cmp}
use Rattle.std.specs.Ordering.{nat_cmp}
use Rattle.redl_tree.specs.Model.Nodes.{Nodes, Item, bytes_item, element_item, idle_item}
use Rattle.redl_tree.specs.Model.View.{Element}
use Rattle.redl_relations.specs.Relations.{has_id, first_with, name_at}
use Rattle.redl_relations.specs.declared.table.Names.{Names}
use Rattle.redl_relations.specs.declared.leads.Whence.{Whence}

abbrev pub number_at : Names → List ℕ → Option ℕ
number_at names name = get_by (λ k. slice_cmp nat_cmp name k.now) names.places

-- where an element leads
abbrev pub lead_of : Whence → Element → Option ℕ
lead_of whence e = number_at whence.names.now (name_at whence.source.now e)

-- where the first relationship with an id leads
abbrev pub lead_in : Whence → List ℕ → Nodes → Option (Option ℕ)
lead_in whence id nodes = option_map (lead_of whence) (first_with (has_id id) nodes)

abbrev pub lead_by : Whence → List ℕ → Element → Option (Option ℕ)
lead_by whence id e = if has_id id e.tag then Some (lead_of whence e) else None

abbrev pub item_lead : Whence → List ℕ → Item → Option (Option ℕ)
item_lead whence id (bytes_item b) = None
item_lead whence id (element_item tag kids) = lead_by whence id (record { tag = tag; kids = kids })
item_lead whence id (idle_item t) = None
