-- The way from a list to one of its own rows or cells that stays, through the shells around it. So one search tells of all
-- shells on the way that they stay, and none of them is searched again.
use Rattle.std.specs.Prelude.{◌≡◌, ℕ, List, [], ◌∷◌, ◌+◌, Bool, true, false, ◌&&◌, ◌||◌, ⊤, Some, if◌then◌else◌}
use Rattle.redl_tree.specs.Model.Nodes.{Tag, Nodes, no_nodes, bytes, element, Item, bytes_item, element_item, idle_item}
use Rattle.redl_tree.specs.Roles.Names.{is}
use Rattle.redl_tree.specs.Roles.Lists.{into, is_direct}
use Rattle.redl_tree.specs.declared.kinds.Say.{Say}
use Rattle.redl_tree.specs.declared.lists.Place.{Place}
use Rattle.redl_tree.specs.declared.lists.Reach.TheVariants.{Direct}
use Rattle.redl_tables.specs.Asked.{asked_inside, answer}
use Rattle.redl_tables.specs.Owners.{elem_found, item_found, shell_unit, unit_name}
use Rattle.redl_tables.specs.Places.{is_cell_list}
use Rattle.redl_tables.specs.declared.owned.Finding.{Finding}
use Rattle.redl_tables.specs.declared.owned.Finding.TheVariants.{Nothing, Living}
use Rattle.redl_tables.specs.declared.questions.Question.{Question}
use Rattle.redl_views.specs.declared.known.Known.{Known}

-- an element that may be an own row or cell, or hold some: the others are no steps of a way
abbrev pub is_step : Tag → Bool
is_step tag = is "tr" tag || (is "tc" tag || (is "sdt" tag || (is "sdtContent" tag || is "customXml" tag)))

-- how many steps of a list are passed after this element, and after this node
abbrev pub passed_after : Tag → ℕ → ℕ
passed_after tag passed = if is_step tag then passed + 1 else passed

abbrev pub passed_item : Item → ℕ → ℕ
passed_item (bytes_item b) passed = passed
passed_item (element_item tag kids) passed = passed_after tag passed
passed_item (idle_item t) passed = passed

-- what is found of an element, where this is asked of its list
abbrev pub found_of_elem : List Say → Question → Tag → Nodes → Finding
found_of_elem says asked tag kids = elem_found asked.unit says asked.reach tag kids

abbrev pub found_of_item : List Say → Question → Item → Finding
found_of_item says asked item = item_found asked.unit says asked.reach item

-- an element answers by itself: it is an own row or cell, or another table or row begins
abbrev pub answers_itself : Question → Tag → Bool
answers_itself asked tag = (is_direct asked.reach && is (unit_name asked.unit) tag) || (is "tbl" tag || is "tr" tag)

-- The way leads to one that stays, where so many steps of the list are passed already: the step of the list that has the
-- first number of the way holds it or is it, and from there the rest of the way leads to it.
abbrev pub Leads : List Say → Question → ℕ → List ℕ → Nodes → Type 0
Leads says asked passed [] nodes = ⊤
Leads says asked passed (at ∷ way) no_nodes = ⊤
Leads says asked passed (at ∷ way) (bytes b rest) = Leads says asked passed (at ∷ way) rest
Leads says asked passed (at ∷ way) (element tag kids rest) =
    (is_step tag ≡ true → passed ≡ at → (found_of_elem says asked tag kids ≡ Living) × (answers_itself asked tag ≡ false → Leads says (asked_inside tag asked) 0 way kids))
    × Leads says asked (passed_after tag passed) (at ∷ way) rest

-- the same in a node of the list that is such a step
abbrev pub LeadsIn : List Say → Question → List ℕ → Item → Type 0
LeadsIn says asked way (bytes_item b) = ⊤
LeadsIn says asked way (element_item tag kids) = answers_itself asked tag ≡ false → Leads says (asked_inside tag asked) 0 way kids
LeadsIn says asked way (idle_item t) = ⊤

-- a way after its first step, and with another first step, where it has one
abbrev pub tail : List ℕ → List ℕ
tail [] = []
tail (step ∷ way) = way

abbrev pub put_first : ℕ → List ℕ → List ℕ
put_first step [] = []
put_first step (first ∷ way) = step ∷ way

-- what is known of a list holds for these nodes, the rest of it after so many steps
pub record HoldsFrom (says : List Say) (known : Known) (passed : ℕ) (nodes : Nodes) : Type 0 where
  pub none : known.found ≡ Some Nothing → answer says known.asked nodes ≡ Nothing
  pub way : known.found ≡ Some Living → Leads says known.asked passed known.way.now nodes

-- what is known of a list holds
pub record Holds (says : List Say) (known : Known) (nodes : Nodes) : Type 0 where
  pub found : (finding : Finding) → known.found ≡ Some finding → answer says known.asked nodes ≡ finding
  pub way : known.found ≡ Some Living → Leads says known.asked 0 known.way.now nodes

-- what is known of what a node holds, where it is an element
abbrev pub HoldsIn : List Say → Known → Item → Type 0
HoldsIn says known (bytes_item b) = ⊤
HoldsIn says known (element_item tag kids) = Holds says known kids
HoldsIn says known (idle_item t) = ⊤

-- what is asked of the kids of a shell at this place
abbrev pub asked_of_shell : Place → Tag → Question
asked_of_shell here tag = record { unit = shell_unit (is_cell_list here); reach = into Direct tag }
