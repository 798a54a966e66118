-- Declarations of namespaces and their scope (Namespaces in XML 1.0, sections 2 to 6).
use Rattle.std.specs.Prelude.{ℕ, Bool, true, ◌&&◌, ◌||◌, not, List, [], ◌∷◌, Option, Some, None, if◌then◌else◌, codes}
use Rattle.std.specs.Str.{bytes_eq}
use Rattle.redl_tree.specs.declared.kinds.Space.{Space}
use Rattle.redl_tree.specs.declared.kinds.Space.TheVariants.{W, M, Pkg, Other}
use Rattle.redl_reading.specs.Lists.{is_filled}
use Rattle.redl_grammar.specs.References.{is_there}
use Rattle.redl_grammar.specs.Names.{Name}
use Rattle.redl_markup.specs.Decoding.{decoded_value}
use Rattle.redl_markup.specs.Attributes.{attributes_of}

-- ---- namespaces

-- the space of the namespace with this name: WordprocessingML in its transitional and its strict form, mathematics
-- (ECMA-376 Part 1, annex A), the flat package, or another one
unfoldable pub space_named : List ℕ → Space
space_named name =
    if bytes_eq name (codes "http://schemas.openxmlformats.org/wordprocessingml/2006/main") || bytes_eq name (codes "http://purl.oclc.org/ooxml/wordprocessingml/main") then W
    else (if bytes_eq name (codes "http://schemas.openxmlformats.org/officeDocument/2006/math") then M
    else (if bytes_eq name (codes "http://schemas.microsoft.com/office/2006/xmlPackage") then Pkg else Other))

-- the namespace to which the prefix `xml` is bound
unfoldable pub is_xml_namespace : List ℕ → Bool
is_xml_namespace name = bytes_eq name (codes "http://www.w3.org/XML/1998/namespace")

unfoldable pub is_xml_prefix : List ℕ → Bool
is_xml_prefix prefix = bytes_eq prefix (codes "xml")

-- the prefix of declarations, and the name of the one for names without a prefix
unfoldable pub is_xmlns : List ℕ → Bool
is_xmlns word = bytes_eq word (codes "xmlns")

-- ---- declarations

-- what an attribute with this name declares: `xmlns:p` the prefix p, `xmlns` the namespace of names without a prefix,
-- for which the prefix here is the empty text, and any other attribute nothing
abbrev pub declared_prefix : Name → Option (List ℕ)
declared_prefix name = if is_xmlns name.prefix then Some name.local else (if not (is_filled name.prefix) && is_xmlns name.local then Some [] else None)

-- `xmlns` is not declared as a prefix, and `xml` only as its own namespace. A prefix is declared with a value that
-- is not empty. Names without a prefix may be declared to be in no namespace.
unfoldable pub may_declare : List ℕ → List ℕ → Bool
may_declare prefix value =
    not (is_filled prefix) || (not (is_xmlns prefix) && is_filled value && (not (is_xml_prefix prefix) || is_xml_namespace (decoded_value value)))

abbrev pub is_allowed_by : Option (List ℕ) → List ℕ → Bool
is_allowed_by None value = true
is_allowed_by (Some prefix) value = may_declare prefix value

-- an attribute is not a declaration, or is an allowed one
abbrev pub is_allowed : Name × List ℕ → Bool
is_allowed a = is_allowed_by (declared_prefix a.0) a.1

-- ---- the scope

-- the declarations in scope, the nearest first: what is declared, and the space of its namespace
abbrev pub Scope : Type 0
Scope = List (List ℕ × Space)

abbrev pub nearest : List ℕ → Scope → Option Space
nearest prefix [] = None
nearest prefix (d ∷ more) = if bytes_eq d.0 prefix then Some d.1 else nearest prefix more

abbrev pub declared_by : Option (List ℕ) → List ℕ → Scope → Scope
declared_by None value scope = scope
declared_by (Some prefix) value scope = (prefix, space_named (decoded_value value)) ∷ scope

-- the scope with what the attributes declare
abbrev pub with_declarations : List (Name × List ℕ) → Scope → Scope
with_declarations [] scope = scope
with_declarations (a ∷ more) scope = with_declarations more (declared_by (declared_prefix a.0) a.1 scope)

-- the scope in an element with this tail
abbrev pub scope_in : List ℕ → Scope → Scope
scope_in tail scope = with_declarations (attributes_of tail) scope

abbrev pub or_other : Option Space → Space
or_other None = Other
or_other (Some space) = space

-- the space of an element with this prefix: that of the nearest declaration
abbrev pub space_of : Scope → List ℕ → Space
space_of scope prefix = or_other (nearest prefix scope)

-- the prefix may be used: none, `xml`, or one that is declared
unfoldable pub is_known : Scope → List ℕ → Bool
is_known scope prefix = not (is_filled prefix) || is_xml_prefix prefix || is_there (nearest prefix scope)

-- no element has the prefix `xmlns`
abbrev pub is_element_prefix : Scope → List ℕ → Bool
is_element_prefix scope prefix = not (is_xmlns prefix) && is_known scope prefix

-- an attribute is a declaration, or its prefix may be used
abbrev pub is_known_attribute : Scope → Name × List ℕ → Bool
is_known_attribute scope a = is_there (declared_prefix a.0) || is_known scope a.0.prefix

-- an attribute with this name is no declaration, and its prefix may be used
abbrev pub is_plain_name : Scope → Name → Bool
is_plain_name scope name = not (is_there (declared_prefix name)) && is_known scope name.prefix
