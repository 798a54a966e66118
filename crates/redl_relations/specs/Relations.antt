-- The relationships of the parts of a package (ECMA-376 Part 2, 9.3; Part 1, 9.2), and the parts that they name. Parts are known by
-- their numbers. Types, modes and ids are compared as they are written, and names of parts as they read.
use Rattle.std.specs.Prelude.{ℕ, ◌+◌, List, [], ◌∷◌, Bool, true, false, ◌&&◌, not, nat_eq, codes, bytes_eq, Option, Some, None, option_and_then, find, slice_get, unwrap_or, if◌then◌else◌}
use Rattle.std.specs.List.{ends_with}
use Rattle.redl_tree.specs.Model.Nodes.{Tag, Nodes}
use Rattle.redl_tree.specs.Model.View.{Element}
use Rattle.redl_tree.specs.Roles.Names.{is}
use Rattle.redl_tree.specs.Decisions.Packages.{named_pkg}
use Rattle.redl_tree.specs.declared.kinds.Space.{Space}
use Rattle.redl_tree.specs.declared.kinds.Space.TheVariants.{Other}
use Rattle.redl_stamp.specs.Attribute.{attribute_value}
use Rattle.redl_opc.specs.Elements.{elements_of}
use Rattle.redl_opc.specs.Shape.{parts_of, is_document}
use Rattle.redl_opc.specs.Parts.{name_in, part_name}
use Rattle.redl_relations.specs.Values.{value_in}
use Rattle.redl_relations.specs.Names.{relations_name, target_name}

-- ---- parts

-- the number of the first of these parts that is so, counted from n
abbrev pub number_from : (Element → Bool) → ℕ → List Element → Option ℕ
number_from p n [] = None
number_from p n (part ∷ more) = if p part then Some n else number_from p (n + 1) more

-- the first part that is so
abbrev pub part_with : (Element → Bool) → Nodes → Option ℕ
part_with p nodes = number_from p 0 (parts_of nodes)

abbrev pub has_part_name : List ℕ → Element → Bool
has_part_name name part = bytes_eq (name_in part.tag) name

-- the first part with this name
abbrev pub part_named : Nodes → List ℕ → Option ℕ
part_named nodes name = part_with (has_part_name name) nodes

-- the first part that is a document
abbrev pub document_part : Nodes → Option ℕ
document_part nodes = part_with is_document nodes

-- the first of these elements whose tag is so
abbrev pub first_with : (Tag → Bool) → Nodes → Option Element
first_with p nodes = find (λ e. p e.tag) (elements_of nodes)

abbrev pub is_xml_data : Tag → Bool
is_xml_data tag = named_pkg (codes "xmlData") tag

-- the element that holds what is in a part, if that is XML
abbrev pub xml_data : Nodes → ℕ → Option Element
xml_data nodes part = option_and_then (λ e. first_with is_xml_data e.kids) (slice_get (parts_of nodes) part)

-- ---- relationships

-- no namespace that is known here
abbrev pub is_unknown : Space → Bool
is_unknown Other = true
is_unknown _ = false

abbrev pub has_local : List ℕ → Tag → Bool
has_local name tag = is_unknown tag.space && bytes_eq tag.local name

abbrev pub is_relations : Tag → Bool
is_relations tag = has_local (codes "Relationships") tag

-- the root of a part of relationships
abbrev pub relations_in : Nodes → ℕ → Option Element
relations_in nodes part = option_and_then (λ e. first_with is_relations e.kids) (xml_data nodes part)

-- what holds the relationships of the part with this name
abbrev pub relations_of : Nodes → List ℕ → Option Element
relations_of nodes name = option_and_then (relations_in nodes) (part_named nodes (relations_name name))

abbrev pub leads_inside : Tag → Bool
leads_inside tag = not (bytes_eq (value_in tag.tail (codes "TargetMode")) (codes "External"))

-- a relationship to a part of the package
abbrev pub is_lead : Tag → Bool
is_lead tag = has_local (codes "Relationship") tag && leads_inside tag

-- one whose type has this ending
abbrev pub has_type : List ℕ → Tag → Bool
has_type ending tag = is_lead tag && ends_with nat_eq (value_in tag.tail (codes "Type")) ending

-- one with this id
abbrev pub has_id : List ℕ → Tag → Bool
has_id id tag = is_lead tag && bytes_eq (value_in tag.tail (codes "Id")) id

-- the name to which a relationship of the part with the name `source` leads
abbrev pub name_at : List ℕ → Element → List ℕ
name_at source e = target_name source (unwrap_or (attribute_value e.tag.tail (codes "Target")) [])

-- the part with that name
abbrev pub part_at : Nodes → List ℕ → Option Element → Option ℕ
part_at nodes source None = None
part_at nodes source (Some e) = part_named nodes (name_at source e)

-- the part to which the first relationship with this tag leads, of those of the part with the name `source`
abbrev pub part_by : (Tag → Bool) → Nodes → Option (List ℕ) → Option ℕ
part_by p nodes None = None
part_by p nodes (Some source) = part_at nodes source (option_and_then (λ root. first_with p root.kids) (relations_of nodes source))

-- ---- from part to part

-- the part to which the first relationship of a part leads whose type ends so, as `/styles`
abbrev pub part_by_type : Nodes → ℕ → List ℕ → Option ℕ
part_by_type nodes part ending = part_by (has_type ending) nodes (part_name nodes part)

-- the part to which the relationship of a part with this id leads
abbrev pub part_by_id : Nodes → ℕ → List ℕ → Option ℕ
part_by_id nodes part id = part_by (has_id id) nodes (part_name nodes part)
