-- The references to headers, footers and notes among nodes (ECMA-376 Part 1, 17.10.2, 17.10.5, 17.11.7 and 17.11.14), in the order in
-- which they stand.
use Rattle.std.specs.Prelude.{ℕ, Bool, false, not, List, [], ◌∷◌, ◌++◌, codes, bytes_eq, Option, Some, None, if◌then◌else◌}
use Rattle.redl_tree.specs.Model.Nodes.{Tag, Nodes, no_nodes, bytes, element}
use Rattle.redl_tree.specs.Roles.Names.{is_w}
use Rattle.redl_order.specs.Values.{value_in}
use Rattle.redl_order.specs.declared.reference.Named.{Named}
use Rattle.redl_order.specs.declared.reference.Named.TheVariants.{Header, Footer, Footnote, Endnote}
use Rattle.redl_order.specs.declared.reference.Reference.{Reference}

-- the id in a tag's tail, as it is written
abbrev pub id_in : List ℕ → List ℕ
id_in tail = value_in tail (codes "id")

abbrev pub named_number : Named → ℕ
named_number Header = 0
named_number Footer = 1
named_number Footnote = 2
named_number Endnote = 3

-- what an element of W with this local name names
abbrev pub named_kind : List ℕ → Option Named
named_kind local =
    if bytes_eq local (codes "headerReference") then Some Header
    else if bytes_eq local (codes "footerReference") then Some Footer
    else if bytes_eq local (codes "footnoteReference") then Some Footnote
    else if bytes_eq local (codes "endnoteReference") then Some Endnote
    else None

-- a value that says yes (ECMA-376 Part 1, 17.17.4)
abbrev pub is_on : List ℕ → Bool
is_on [] = false
is_on (b ∷ bs) =
    if bytes_eq (b ∷ bs) (codes "0") then false
    else if bytes_eq (b ∷ bs) (codes "false") then false
    else not (bytes_eq (b ∷ bs) (codes "off"))

-- whether the text that follows a reference is its sign, in place of a number (17.11.7 and 17.11.14)
abbrev pub has_own_sign : List ℕ → Bool
has_own_sign tail = is_on (value_in tail (codes "customMarkFollows"))

abbrev pub reference_to : List ℕ → Option Named → List Reference
reference_to tail None = []
reference_to tail (Some named) = record { named = named; id = id_in tail; own_sign = has_own_sign tail } ∷ []

-- the reference that an element of W with this local name and tail is, if it is one
abbrev pub named_by : List ℕ → List ℕ → List Reference
named_by local tail = reference_to tail (named_kind local)

-- the reference that an element is, if it is one
abbrev pub named_of : Tag → List Reference
named_of tag = if is_w tag.space then named_by tag.local tag.tail else []

-- the references among nodes, at every depth
abbrev pub references : Nodes → List Reference
references no_nodes = []
references (bytes b rest) = references rest
references (element tag kids rest) = (named_of tag ++ references kids) ++ references rest
