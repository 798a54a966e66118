-- The document of the page: its stories, with an element for each member of a revision. Documents come first, and then the others, both
-- in the order of the parts (our own rule).
use Rattle.std.specs.Prelude.{ℕ, List, [], ◌∷◌, ◌++◌, Bool, true, false, ◌&&◌, ◌||◌, not, Option, Some, None, bytes_eq, codes, unwrap_or, if◌then◌else◌}
use Rattle.redl_tree.specs.Model.Nodes.{Tag, Nodes, no_nodes, bytes, element}
use Rattle.redl_tree.specs.Roles.Names.{is, is_math}
use Rattle.redl_tree.specs.Roles.Places.{is_quiet}
use Rattle.redl_tree.specs.Roles.Kinds.{is_mark}
use Rattle.redl_tree.specs.declared.kinds.Kind.{Kind}
use Rattle.redl_tree.specs.declared.kinds.Kind.TheVariants.{Plain, Content, Mark, Row, Cell, Change, Marker}
use Rattle.redl_opc.specs.Elements.{Element}
use Rattle.redl_opc.specs.Parts.{name_in, part_name, story}
use Rattle.redl_opc.specs.Shape.{parts_of, story_of}
use Rattle.redl_index.specs.declared.revision.Revision.{Revision}
use Rattle.redl_hidden.specs.Runs.{paragraph_hides}
use Rattle.redl_hidden.specs.Styles.{HiddenStyles}
use Rattle.redl_places.specs.Places.{Signs}
use Rattle.redl_page_stories.specs.Facts.{Facts, package_facts}
use Rattle.redl_page_stories.specs.declared.place.PageSummary.{PageSummary}
use Rattle.redl_page_stories.specs.declared.marks.Depth.{Depth}
use Rattle.redl_page_stories.specs.declared.marks.Depth.TheVariants.{Kids, Properties, RunProperties}
use Rattle.redl_page_stories.specs.declared.shape.Shape.{Shape}
use Rattle.redl_html.specs.Pieces.{HtmlPiece, own, outside}
use Rattle.redl_page_stories.specs.Signs.{member, edge, content_end}
use Rattle.redl_page_stories.specs.Shapes.{shape_of, opening, behind_opening, before_closing, closing, is_paragraph}

-- ---- the marks of a paragraph

-- the members of a paragraph's mark among nodes: in its kids, in its properties, or in the run properties of these (ECMA-376 Part 1,
-- 17.3.1.29)
abbrev pub marks_in : List Revision → Depth → Nodes → List HtmlPiece
marks_in revisions depth no_nodes = []
marks_in revisions depth (bytes b rest) = marks_in revisions depth rest
marks_in revisions Kids (element tag kids rest) =
    (if is "pPr" tag then marks_in revisions Properties kids else []) ++ marks_in revisions Kids rest
marks_in revisions Properties (element tag kids rest) =
    (if is "rPr" tag then marks_in revisions RunProperties kids else []) ++ marks_in revisions Properties rest
marks_in revisions RunProperties (element tag kids rest) =
    (if is_mark tag.kind then member revisions tag.kind tag.rev else []) ++ marks_in revisions RunProperties rest

-- ---- one element

abbrev pub shape_start : Signs → Shape → Tag → Nodes → List HtmlPiece
shape_start signs shape tag kids = own (opening shape) ∷ behind_opening signs shape tag kids

-- a paragraph shows the members of its mark at its end
abbrev pub shape_end : List Revision → Shape → Nodes → List HtmlPiece
shape_end revisions shape kids =
    (if is_paragraph shape then marks_in revisions Kids kids else []) ++ (before_closing shape kids ++ own (closing shape) ∷ [])

-- what comes before the kids of an element with this shape
abbrev pub start_as : Facts → Shape → Tag → Nodes → Kind → List HtmlPiece
start_as facts shape tag kids Plain = shape_start facts.signs shape tag kids
start_as facts shape tag kids (Content trace) = member facts.revisions (Content trace) tag.rev
start_as facts shape tag kids (Mark trace) = []
start_as facts shape tag kids (Row trace) = member facts.revisions (Row trace) tag.rev
start_as facts shape tag kids (Cell trace) = member facts.revisions (Cell trace) tag.rev
start_as facts shape tag kids (Change prop) = member facts.revisions (Change prop) tag.rev
start_as facts shape tag kids Marker = edge facts.revisions tag

-- what comes after them
abbrev pub end_as : List Revision → Shape → Nodes → Kind → List HtmlPiece
end_as revisions shape kids Plain = shape_end revisions shape kids
end_as revisions shape kids (Content trace) = own (content_end trace) ∷ []
end_as revisions shape kids _ = []

-- ---- nodes

-- the place of the kids of an element: whether no ancestor holds properties, whether the element is a text, and whether the nearest
-- paragraph hides its runs
abbrev pub inside : HiddenStyles → Tag → Nodes → PageSummary → PageSummary
inside hidden tag kids place = record {
  loud = place.loud && not (is_quiet tag);
  shows = place.loud && (is "t" tag || is "delText" tag || is_math "t" tag);
  hides = if is "p" tag then paragraph_hides hidden kids else place.hides;
}

abbrev pub bytes_pieces : (List ℕ → List ℕ) → PageSummary → List ℕ → List HtmlPiece
bytes_pieces shown place b = if place.shows then outside (shown b) ∷ [] else []

-- an element whose kids give these pieces
abbrev pub element_pieces : Facts → PageSummary → Tag → Nodes → List HtmlPiece → List HtmlPiece
element_pieces facts place tag kids inner =
    start_as facts (shape_of facts.hidden place tag kids) tag kids tag.kind
    ++ (inner ++ end_as facts.revisions (shape_of facts.hidden place tag kids) kids tag.kind)

-- nodes that have this place; `shown` gives what the bytes of a node show
abbrev pub nodes_pieces : (List ℕ → List ℕ) → Facts → PageSummary → Nodes → List HtmlPiece
nodes_pieces shown facts place no_nodes = []
nodes_pieces shown facts place (bytes b rest) = bytes_pieces shown place b ++ nodes_pieces shown facts place rest
nodes_pieces shown facts place (element tag kids rest) =
    element_pieces facts place tag kids (nodes_pieces shown facts (inside facts.hidden tag kids place) kids) ++ nodes_pieces shown facts place rest

-- ---- stories

-- the place of the kids of a story's root
abbrev pub in_story : PageSummary
in_story = record { loud = true; shows = false; hides = false }

-- a story says of which sort it is, by the local name of its root, and which part it is
abbrev pub section_start : List ℕ → List ℕ → List HtmlPiece
section_start name sort = own "<section data-story=\"" ∷ outside sort ∷ own "\" data-part=\"" ∷ outside name ∷ own "\">\n" ∷ []

-- a story in a word, or else the name of its part
abbrev pub heading_piece : List ℕ → List ℕ → HtmlPiece
heading_piece name sort =
    if bytes_eq sort (codes "hdr") then own "Header"
    else if bytes_eq sort (codes "ftr") then own "Footer"
    else if bytes_eq sort (codes "footnotes") then own "Footnotes"
    else if bytes_eq sort (codes "endnotes") then own "Endnotes"
    else if bytes_eq sort (codes "comments") then own "Comments"
    else outside name

-- each story but the first document has it as its heading
abbrev pub section_heading : Bool → List ℕ → List ℕ → List HtmlPiece
section_heading true name sort = []
section_heading false name sort = own "<h2>" ∷ heading_piece name sort ∷ own "</h2>\n" ∷ []

-- a story with these kids of its root
abbrev pub section : (List ℕ → List ℕ) → Facts → Bool → List ℕ → List ℕ → Nodes → List HtmlPiece
section shown facts first name sort kids =
    section_start name sort ++ (section_heading first name sort ++ (nodes_pieces shown facts in_story kids ++ (own "</section>\n" ∷ [])))

-- a story is a document, or is none
abbrev pub is_sort : Bool → Element → Bool
is_sort documents root = if documents then bytes_eq root.tag.local (codes "document") else not (bytes_eq root.tag.local (codes "document"))

-- the story of a part with this name, if it has one of this sort
abbrev pub section_in : (List ℕ → List ℕ) → Facts → Bool → Bool → List ℕ → Option Element → List HtmlPiece
section_in shown facts documents first name None = []
section_in shown facts documents first name (Some root) = if is_sort documents root then section shown facts first name root.tag.local root.kids else []

-- whether no story comes before what follows such a part
abbrev pub is_first_after : Bool → Bool → Option Element → Bool
is_first_after documents first None = first
is_first_after documents first (Some root) = if is_sort documents root then false else first

-- the stories of these parts that are documents, or those that are none, where no story comes before them or one does
abbrev pub sections : (List ℕ → List ℕ) → Facts → Bool → Bool → List Element → List HtmlPiece
sections shown facts documents first [] = []
sections shown facts documents first (part ∷ later) =
    section_in shown facts documents first (name_in part.tag) (story_of part)
    ++ sections shown facts documents (is_first_after documents first (story_of part)) later

-- all stories of a package
abbrev pub stories_pieces : (List ℕ → List ℕ) → Facts → Nodes → List HtmlPiece
stories_pieces shown facts nodes = sections shown facts true true (parts_of nodes) ++ sections shown facts false false (parts_of nodes)

-- with the facts that the package itself has
abbrev pub document_pieces : (List ℕ → List ℕ) → List Revision → Nodes → List HtmlPiece
document_pieces shown revisions nodes = stories_pieces shown (package_facts revisions nodes) nodes

-- the name of the part with this number
abbrev pub name_at : Nodes → ℕ → List ℕ
name_at nodes number = unwrap_or (part_name nodes number) []

-- its story, if it has one of this sort
abbrev pub section_at : (List ℕ → List ℕ) → Facts → Nodes → Bool → Bool → ℕ → List HtmlPiece
section_at shown facts nodes documents first number = section_in shown facts documents first (name_at nodes number) (story nodes number)
