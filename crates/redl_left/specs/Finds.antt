-- What elements are found to be: the rows of a table are asked in their order, and an element is a find of the first one that asks
-- for it. A member of a revision is a find by its kind, whatever the rows. Where the name of an author stands as a text or as a
-- value, that is a find too (our own rule).
use Rattle.std.specs.Prelude.{ℕ, List, [], ◌∷◌, ◌++◌, Bool, true, false, not, ◌&&◌, ◌||◌, Option, Some, None, is_some, find, length, ◌==◌, nat_eq, bytes_eq, codes, if◌then◌else◌}
use Rattle.std.specs.List.{list_any, ends_with}
use Rattle.redl_grammar.specs.Names.{Name as Qualified}
use Rattle.redl_markup.specs.Attributes.{attributes_of}
use Rattle.redl_markup.specs.Decoding.{decoded_value}
use Rattle.redl_reading.specs.Lists.{begins}
use Rattle.redl_relations.specs.Names.{target_name}
use Rattle.redl_shown.specs.Shown.{shown}
use Rattle.redl_stamp.specs.Attribute.{attribute_value}
use Rattle.redl_tree.specs.Model.Nodes.{Tag, Nodes, no_nodes, bytes, element}
use Rattle.redl_tree.specs.Model.Kids.{has_element}
use Rattle.redl_tree.specs.Roles.Names.{is_w}
use Rattle.redl_tree.specs.Decisions.Packages.{is_pkg}
use Rattle.redl_tree.specs.declared.kinds.Space.{Space}
use Rattle.redl_tree.specs.declared.kinds.Space.TheVariants as spaces
use Rattle.redl_tree.specs.declared.kinds.Kind.{Kind}
use Rattle.redl_tree.specs.declared.kinds.Kind.TheVariants as kinds
use Rattle.redl_tree.specs.declared.kinds.Trace.{Trace}
use Rattle.redl_tree.specs.declared.kinds.Trace.TheVariants as traces
use Rattle.redl_tree.specs.declared.kinds.Prop.{Prop}
use Rattle.redl_tree.specs.declared.kinds.Prop.TheVariants as props
use Rattle.redl_left.specs.Names.{name_text}
use Rattle.redl_left.specs.declared.fact.Fact.{Fact}
use Rattle.redl_left.specs.declared.fact.Fact.TheVariants as fact
use Rattle.redl_left.specs.declared.row.Where.{Where}
use Rattle.redl_left.specs.declared.row.Where.TheVariants.{Word, AnyWord, Inside, Part}
use Rattle.redl_left.specs.declared.row.When.{When}
use Rattle.redl_left.specs.declared.row.When.TheVariants.{Always, On, Has, HasFront, Is, Begins, Ends, Separates, Spare, Led}
use Rattle.redl_left.specs.declared.row.Value.{Value}
use Rattle.redl_left.specs.declared.row.Value.TheVariants.{Nothing, Attribute, Author, Made, Shown, Held, Lead}
use Rattle.redl_left.specs.declared.row.Row.{Row}

-- a find: the fact, the part that it is in, and what is told of it
pub record Find : Type 0 where
  pub fact : Fact
  pub part : List ℕ
  pub value : List ℕ

-- ---- which elements a row asks for

-- a namespace that is not known here
abbrev pub is_other : Space → Bool
is_other spaces.Other = true
is_other _ = false

abbrev pub is_part_name : Space → List ℕ → Bool
is_part_name space local = is_pkg space && bytes_eq local (codes "part")

-- by its namespace and local name, and the local name of its parent
abbrev pub asks_place : Where → List ℕ → Space → List ℕ → Bool
asks_place (Word name) parent space local = is_w space && bytes_eq local (name_text name)
asks_place AnyWord parent space local = is_w space
asks_place (Inside outer name) parent space local = is_other space && (bytes_eq parent (name_text outer) && bytes_eq local (name_text name))
asks_place Part parent space local = is_part_name space local

-- a property is switched off by such a value (ECMA-376 Part 1, 17.17.4)
abbrev pub is_off : Option (List ℕ) → Bool
is_off None = false
is_off (Some value) = bytes_eq value (codes "0") || (bytes_eq value (codes "false") || bytes_eq value (codes "off"))

abbrev pub is_value : List ℕ → Option (List ℕ) → Bool
is_value wanted None = false
is_value wanted (Some value) = bytes_eq value wanted

abbrev pub begins_value : List ℕ → Option (List ℕ) → Bool
begins_value front None = false
begins_value front (Some value) = begins front value

abbrev pub ends_value : List ℕ → Option (List ℕ) → Bool
ends_value ending None = false
ends_value ending (Some value) = ends_with nat_eq value ending

abbrev pub has_front_name : List ℕ → List ℕ → Bool
has_front_name tail front = list_any (λ attribute. begins front attribute.0.local) (attributes_of tail)

-- a note has this type where it is no separator (ECMA-376 Part 1, 17.18.33)
abbrev pub is_normal : Option (List ℕ) → Bool
is_normal None = true
is_normal (Some kind) = bytes_eq kind (codes "normal")

-- an element with this value is named
abbrev pub names_it : (List ℕ → Bool) → Option (List ℕ) → Bool
names_it named None = false
names_it named (Some value) = named value

-- by an attribute
abbrev pub asks_when : (Fact → List ℕ → Bool) → When → List ℕ → Bool
asks_when named Always tail = true
asks_when named On tail = not (is_off (attribute_value tail (codes "val")))
asks_when named (Has name) tail = is_some (attribute_value tail (name_text name))
asks_when named (HasFront name) tail = has_front_name tail (name_text name)
asks_when named (Is name wanted) tail = is_value (name_text wanted) (attribute_value tail (name_text name))
asks_when named (Begins name front) tail = begins_value (name_text front) (attribute_value tail (name_text name))
asks_when named (Ends name ending) tail = ends_value (name_text ending) (attribute_value tail (name_text name))
asks_when named Separates tail = not (is_normal (attribute_value tail (codes "type")))
asks_when named (Spare fact) tail = is_normal (attribute_value tail (codes "type")) && not (names_it (named fact) (attribute_value tail (codes "id")))
asks_when named (Led fact) tail = names_it (named fact) (attribute_value tail (codes "name"))

abbrev pub asks : (Fact → List ℕ → Bool) → List ℕ → Space → List ℕ → List ℕ → Row → Bool
asks named parent space local tail row = asks_place row.place parent space local && asks_when named row.when tail

-- the first row that asks for the element
abbrev pub first_row : (Fact → List ℕ → Bool) → List Row → List ℕ → Space → List ℕ → List ℕ → Option Row
first_row named rows parent space local tail = find (asks named parent space local tail) rows

-- What is asked of elements: which row asks first, by the local name of the parent, the namespace, the local name and the tail; whether
-- the members of revisions are found by their kind; and which values elements name for a fact.
pub record Table : Type 0 where
  pub first : List ℕ → Space → List ℕ → List ℕ → Option Row
  pub by_kind : Bool
  pub named : Fact → List ℕ → Bool

-- the first of these rows that asks
abbrev pub rows_table : List Row → Bool → (Fact → List ℕ → Bool) → Table
rows_table rows by_kind named = record { first = first_row named rows; by_kind = by_kind; named = named }

-- ---- what is told of an element

-- who made it, after a space
abbrev pub by_whom : Option (List ℕ) → List ℕ
by_whom None = []
by_whom (Some author) = 32 ∷ author

abbrev pub value_or_nothing : Option (List ℕ) → List ℕ
value_or_nothing None = []
value_or_nothing (Some value) = value

abbrev pub front_shown : Nodes → List ℕ
front_shown (bytes b rest) = shown b
front_shown _ = []

-- what an element shows that holds no other; of an element of W nothing is told here
abbrev pub shown_alone : Space → Nodes → List ℕ
shown_alone space kids = if is_w space || has_element kids then [] else front_shown kids

-- what the first element shows
abbrev pub inner_shown : Nodes → List ℕ
inner_shown no_nodes = []
inner_shown (bytes b rest) = inner_shown rest
inner_shown (element tag kids rest) = shown_alone tag.space kids

abbrev pub inner_of : Space → Nodes → List ℕ
inner_of space kids = if is_w space then [] else inner_shown kids

abbrev pub after_colon : List ℕ → List ℕ
after_colon [] = []
after_colon (b ∷ bs) = codes ": " ++ (b ∷ bs)

-- The name of the part to which a relationship leads that stands in this part: that is in the folder `_rels` beside the part that has
-- the relationship (ECMA-376 Part 2, 9.3.3), so they lead as from that folder's own name.
abbrev pub lead_from : List ℕ → List ℕ → List ℕ
lead_from part target = target_name (target_name part (codes ".")) target

-- of an element in this part
abbrev pub value_of : List ℕ → Value → Space → List ℕ → List ℕ → Nodes → List ℕ
value_of part Nothing space local tail kids = []
value_of part (Attribute name) space local tail kids = value_or_nothing (attribute_value tail (name_text name))
value_of part Author space local tail kids = value_or_nothing (attribute_value tail (codes "author"))
value_of part Made space local tail kids = local ++ by_whom (attribute_value tail (codes "author"))
value_of part Shown space local tail kids = shown_alone space kids
value_of part (Held name) space local tail kids = value_or_nothing (attribute_value tail (name_text name)) ++ after_colon (inner_of space kids)
value_of part (Lead name) space local tail kids = lead_from part (value_or_nothing (attribute_value tail (name_text name)))

-- ---- the finds

abbrev pub content_fact : Trace → Fact
content_fact traces.Ins = fact.Ins
content_fact traces.Del = fact.Del
content_fact traces.From = fact.MoveFrom
content_fact traces.To = fact.MoveTo

abbrev pub mark_fact : Trace → Fact
mark_fact traces.Ins = fact.MarkIns
mark_fact traces.Del = fact.MarkDel
mark_fact traces.From = fact.MarkFrom
mark_fact traces.To = fact.MarkTo

abbrev pub prop_fact : Prop → Fact
prop_fact props.Run = fact.RunProps
prop_fact props.Para = fact.ParaProps
prop_fact props.Sect = fact.SectProps
prop_fact props.Table = fact.TableProps
prop_fact props.Except = fact.ExceptProps
prop_fact props.Row = fact.RowProps
prop_fact props.Cell = fact.CellProps

-- what a member of a revision is, by its kind; rows and cells are not moved, and a marker of a paired move is told by its move
abbrev pub member_fact : Kind → Option Fact
member_fact (kinds.Content trace) = Some (content_fact trace)
member_fact (kinds.Mark trace) = Some (mark_fact trace)
member_fact (kinds.Row traces.Ins) = Some fact.RowIns
member_fact (kinds.Row traces.Del) = Some fact.RowDel
member_fact (kinds.Row traces.From) = None
member_fact (kinds.Row traces.To) = None
member_fact (kinds.Cell traces.Ins) = Some fact.CellIns
member_fact (kinds.Cell traces.Del) = Some fact.CellDel
member_fact (kinds.Cell traces.From) = None
member_fact (kinds.Cell traces.To) = None
member_fact (kinds.Change prop) = Some (prop_fact prop)
member_fact kinds.Marker = None
member_fact kinds.Plain = None

abbrev pub found_member : List ℕ → Option Fact → List Find
found_member part None = []
found_member part (Some fact) = record { fact = fact; part = part; value = [] } ∷ []

-- an element that shows nothing is no find of a row that tells what it shows, nor is one that names nobody of a row that tells who made it
abbrev pub is_nothing : Value → List ℕ → Bool
is_nothing Shown value = length value == 0
is_nothing Author value = length value == 0
is_nothing _ value = false

abbrev pub found_value : List ℕ → Row → List ℕ → List Find
found_value part row value = if is_nothing row.value value then [] else record { fact = row.fact; part = part; value = value } ∷ []

abbrev pub found_row : List ℕ → Space → List ℕ → List ℕ → Nodes → Option Row → List Find
found_row part space local tail kids None = []
found_row part space local tail kids (Some row) = found_value part row (value_of part row.value space local tail kids)

abbrev pub found_plain : Table → List ℕ → List ℕ → Space → List ℕ → List ℕ → Nodes → List Find
found_plain table part parent space local tail kids = found_row part space local tail kids (table.first parent space local tail)

-- an element in this part, in a parent with this local name
abbrev pub found_by : Kind → Table → List ℕ → List ℕ → Space → List ℕ → List ℕ → Nodes → List Find
found_by kinds.Plain table part parent space local tail kids = found_plain table part parent space local tail kids
found_by kind table part parent space local tail kids = found_member part (member_fact kind)

abbrev pub kind_in : Table → Kind → Kind
kind_in table kind = if table.by_kind then kind else kinds.Plain

-- ---- names of authors

abbrev pub is_author : Table → List ℕ → Bool
is_author table text = not (length text == 0) && table.named fact.Name text

-- a text that is the name of an author
abbrev pub found_told : Table → List ℕ → List ℕ → List Find
found_told table part text = if is_author table text then record { fact = fact.Name; part = part; value = text } ∷ [] else []

-- a stretch of bytes that shows such a name
abbrev pub found_text : Table → List ℕ → List ℕ → List Find
found_text table part b = found_told table part (shown b)

-- an attribute with such a name as its value, which is no `author`
abbrev pub found_name : Table → List ℕ → Qualified × List ℕ → List Find
found_name table part attribute =
    if bytes_eq attribute.0.local (codes "author") then [] else found_told table part (decoded_value attribute.1)

abbrev pub found_among : Table → List ℕ → List (Qualified × List ℕ) → List Find
found_among table part [] = []
found_among table part (attribute ∷ attributes) = found_name table part attribute ++ found_among table part attributes

-- the attributes of a tail
abbrev pub found_names : Table → List ℕ → List ℕ → List Find
found_names table part tail = found_among table part (attributes_of tail)

-- ---- elements

abbrev pub found : Table → List ℕ → List ℕ → Tag → Nodes → List Find
found table part parent tag kids =
    found_by (kind_in table tag.kind) table part parent tag.space tag.local tag.tail kids ++ found_names table part tag.tail

-- an idle element, of which its parent and its kids say nothing
abbrev pub found_idle : Table → List ℕ → List ℕ → List ℕ → List Find
found_idle table part local tail = found_plain table part [] spaces.W local tail no_nodes ++ found_names table part tail

-- the part in which an element and all below it are, by the part round it
abbrev pub part_of : List ℕ → Tag → List ℕ
part_of part tag =
    if is_part_name tag.space tag.local then value_or_nothing (attribute_value tag.tail (codes "name")) else part

-- the finds among nodes, in the order of their start tags
abbrev pub finds : Table → List ℕ → List ℕ → Nodes → List Find
finds table part parent no_nodes = []
finds table part parent (bytes b rest) = found_text table part b ++ finds table part parent rest
finds table part parent (element tag kids rest) =
    (found table (part_of part tag) parent tag kids ++ finds table (part_of part tag) tag.local kids) ++ finds table part parent rest

-- an element and all below it
abbrev pub element_finds : Table → List ℕ → List ℕ → Tag → Nodes → List Find
element_finds table part parent tag kids = found table part parent tag kids ++ finds table part tag.local kids
