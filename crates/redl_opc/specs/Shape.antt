-- The shape of a package in one XML text, the Flat OPC form: a `package` of parts, each with a name and a content type,
-- that holds XML or other data. Its names are of the namespace `http://schemas.microsoft.com/office/2006/xmlPackage`.
use Rattle.std.specs.Prelude.{◌≡◌, ℕ, List, [], Bool, false, ◌&&◌, ◌||◌, not, codes, Option, Some, None, is_some, if◌then◌else◌}
use Rattle.std.specs.List.{list_all, list_any}
use Rattle.redl_tree.specs.Model.Nodes.{Tag, Nodes}
use Rattle.redl_tree.specs.Roles.Names.{is}
use Rattle.redl_tree.specs.Decisions.Packages.{named_pkg, is_story_root}
use Rattle.redl_stamp.specs.Attribute.{attribute_value}
use Rattle.redl_opc.specs.Elements.{Element, elements_of, only_element}
use Rattle.redl_opc.specs.declared.error.OpcError.{OpcError}
use Rattle.redl_opc.specs.declared.error.OpcError.TheVariants.{NotPackage, PartShape, NoDocument, NoMemory}

abbrev pub has_attribute : List ℕ → Tag → Bool
has_attribute name tag = is_some (attribute_value tag.tail name)

-- what a part holds: `binaryData`, or `xmlData` with exactly one child element
abbrev pub is_data : Element → Bool
is_data e =
    named_pkg (codes "binaryData") e.tag || (named_pkg (codes "xmlData") e.tag && is_some (only_element e.kids))

abbrev pub is_data_alone : Option Element → Bool
is_data_alone None = false
is_data_alone (Some e) = is_data e

-- a `part` with a name, a content type and exactly one child element, which is its data
abbrev pub is_part : Element → Bool
is_part e =
    named_pkg (codes "part") e.tag && has_attribute (codes "name") e.tag && has_attribute (codes "contentType") e.tag && is_data_alone (only_element e.kids)

-- the one element of XML data
abbrev pub root_in : Option Element → Option Element
root_in None = None
root_in (Some e) = if named_pkg (codes "xmlData") e.tag then only_element e.kids else None

abbrev pub story_root : Option Element → Option Element
story_root None = None
story_root (Some root) = if is_story_root root.tag then Some root else None

-- the root of a story; none if the part is not a story
abbrev pub story_of : Element → Option Element
story_of part = story_root (root_in (only_element part.kids))

abbrev pub is_document_root : Option Element → Bool
is_document_root None = false
is_document_root (Some root) = is "document" root.tag

-- a story whose root is `document`
abbrev pub is_document : Element → Bool
is_document part = is_document_root (story_of part)

abbrev pub package_in : Option Element → Option Element
package_in None = None
package_in (Some root) = if named_pkg (codes "package") root.tag then Some root else None

-- the root, if it is `package`
abbrev pub package_of : Nodes → Option Element
package_of nodes = package_in (only_element nodes)

-- the child elements of this root
abbrev pub elements_in : Option Element → List Element
elements_in None = []
elements_in (Some root) = elements_of root.kids

-- the parts of a package, in order: the child elements of its root
abbrev pub parts_of : Nodes → List Element
parts_of nodes = elements_in (package_of nodes)

abbrev pub parts_refusal : List Element → Option OpcError
parts_refusal parts =
    if not (list_all is_part parts) then Some PartShape else if not (list_any is_document parts) then Some NoDocument else None

-- why nodes are not a package: the first cause that holds, and none if they are a package
abbrev pub refusal_of : Option Element → Option OpcError
refusal_of None = Some NotPackage
refusal_of (Some root) = parts_refusal (elements_of root.kids)

-- why nodes are no package, if they are none
abbrev pub refusal : Nodes → Option OpcError
refusal nodes = refusal_of (package_of nodes)

-- An error is the first cause. Memory runs out only where there is none.
abbrev pub IsCause : OpcError → Nodes → Type 0
IsCause NotPackage nodes = refusal nodes ≡ Some NotPackage
IsCause PartShape nodes = refusal nodes ≡ Some PartShape
IsCause NoDocument nodes = refusal nodes ≡ Some NoDocument
IsCause NoMemory nodes = refusal nodes ≡ None
