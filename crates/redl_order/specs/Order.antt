-- The order of the stories of a package (our own rule): the document, its headers, its footers, and the notes that it names. A word
-- processor names and orders them anew whenever it stores a document; so their order is that of the references in the document. Headers
-- and footers that nothing names come after the others, and such notes are left out, since a word processor drops them. By ECMA-376
-- Part 1, 17.10 and 17.11, only the document holds such references; a header is named by the id of a relationship.
use Rattle.std.specs.Prelude.{ℕ, ◌+◌, ◌==◌, List, [], ◌∷◌, ◌++◌, Bool, false, not, ◌||◌, codes, bytes_eq, filter, filter_map, Option, Some, None, if◌then◌else◌}
use Rattle.std.specs.List.{flat_map}
use Rattle.redl_tree.specs.Model.Nodes.{Nodes}
use Rattle.redl_tree.specs.Model.View.{Element}
use Rattle.redl_tree.specs.Roles.Names.{named}
use Rattle.redl_tree.specs.Decisions.Packages.{stories}
use Rattle.redl_opc.specs.Elements.{elements_of}
use Rattle.redl_opc.specs.Shape.{parts_of}
use Rattle.redl_opc.specs.Stories.{stories_of_part}
use Rattle.redl_relations.specs.Relations.{document_part, part_by_id}
use Rattle.redl_order.specs.References.{id_in, named_number, references}
use Rattle.redl_order.specs.declared.reference.Named.{Named}
use Rattle.redl_order.specs.declared.reference.Named.TheVariants.{Header, Footer, Footnote, Endnote}
use Rattle.redl_order.specs.declared.reference.Reference.{Reference}

-- an element of W with this local name
abbrev pub has_name : List ℕ → Element → Bool
has_name name e = named name e.tag

-- the stories of a package with this root, in the order of its parts
abbrev pub stories_named : List ℕ → Nodes → List Element
stories_named name nodes = filter (has_name name) (stories nodes)

-- ---- notes

-- the local name of such a story or note
abbrev pub local_name : Named → List ℕ
local_name Header = codes "hdr"
local_name Footer = codes "ftr"
local_name Footnote = codes "footnote"
local_name Endnote = codes "endnote"

-- the notes of this kind in a story
abbrev pub notes_of : Named → Nodes → List Element
notes_of note kids = filter (has_name (local_name note)) (elements_of kids)

-- and in a package, in the order of its parts
abbrev pub notes : Named → Nodes → List Element
notes note nodes = flat_map (λ root. notes_of note root.kids) (stories nodes)

abbrev pub has_id : List ℕ → Element → Bool
has_id id e = bytes_eq (id_in e.tag.tail) id

-- for each id in turn the notes that have it, but for those that came before
abbrev pub with_ids : List (List ℕ) → List Element → List Element
with_ids [] notes = []
with_ids (id ∷ ids) notes = filter (has_id id) notes ++ with_ids ids (filter (λ e. not (has_id id e)) notes)

-- ---- what names them

abbrev pub is_same : Named → Named → Bool
is_same one other = named_number one == named_number other

abbrev pub own_id : Named → Reference → List (List ℕ)
own_id kind reference = if is_same kind reference.named then reference.id ∷ [] else []

-- the ids by which references name stories or notes of this kind
abbrev pub ids : Named → List Reference → List (List ℕ)
ids kind references = flat_map (own_id kind) references

-- the references of the document
abbrev pub document_references : Nodes → List Reference
document_references nodes = flat_map (λ root. references root.kids) (stories_named (codes "document") nodes)

-- the notes of this kind that the document names, in the order of its references
abbrev pub named_notes : Named → Nodes → List Element
named_notes note nodes = with_ids (ids note (document_references nodes)) (notes note nodes)

-- ---- headers and footers

-- the part to which a reference with this id leads from the first document
abbrev pub part_led_to : Nodes → Option ℕ → List ℕ → Option ℕ
part_led_to nodes None id = None
part_led_to nodes (Some document) id = part_by_id nodes document id

-- the parts to which such references lead, in their order
abbrev pub parts_led_to : Named → Nodes → List ℕ
parts_led_to kind nodes = filter_map (part_led_to nodes (document_part nodes)) (ids kind (document_references nodes))

-- numbers from n on, as many as there are of these
abbrev pub numbers_from : ℕ → List Element → List ℕ
numbers_from n [] = []
numbers_from n (part ∷ more) = n ∷ numbers_from (n + 1) more

-- numbers but for those seen, each where it comes first
abbrev pub each_once : (ℕ → Bool) → List ℕ → List ℕ
each_once seen [] = []
each_once seen (n ∷ more) = if seen n then each_once seen more else n ∷ each_once (λ m. m == n || seen m) more

-- the story of this kind that a part is, if it is one
abbrev pub story_of_kind : Named → Nodes → ℕ → List Element
story_of_kind kind nodes part = filter (has_name (local_name kind)) (stories_of_part nodes part)

-- the stories of this kind: those that the document names, in the order of its references, and then the others
abbrev pub named_stories : Named → Nodes → List Element
named_stories kind nodes = flat_map (story_of_kind kind nodes) (each_once (λ n. false) (parts_led_to kind nodes ++ numbers_from 0 (parts_of nodes)))

-- ---- all of them

abbrev pub ordered : Nodes → List Element
ordered nodes =
    stories_named (codes "document") nodes
    ++ (named_stories Header nodes ++ (named_stories Footer nodes ++ (named_notes Footnote nodes ++ named_notes Endnote nodes)))
