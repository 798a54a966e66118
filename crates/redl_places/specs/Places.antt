-- Where revisions are: in the document, a header, a footer, a comment, a note or a text box, the innermost of these that holds the first
-- member (our own rule).
use Rattle.std.specs.Prelude.{ℕ, ◌==◌, Bool, true, false, List, [], ◌∷◌, ◌++◌, Option, if◌then◌else◌}
use Rattle.std.specs.List.{flat_map}
use Rattle.redl_tree.specs.Model.Nodes.{Tag, Nodes, no_nodes, bytes, element}
use Rattle.redl_tree.specs.Model.View.{Element}
use Rattle.redl_tree.specs.Decisions.Packages.{stories}
use Rattle.redl_tree.specs.Roles.Names.{is}
use Rattle.redl_tree.specs.declared.kinds.Kind.{Kind}
use Rattle.redl_tree.specs.declared.kinds.Kind.TheVariants as kind
use Rattle.redl_order.specs.References.{id_in}
use Rattle.redl_order.specs.Order.{document_references}
use Rattle.redl_order.specs.declared.reference.Named.TheVariants as named
use Rattle.redl_places.specs.Signs.{sign_of}
use Rattle.redl_places.specs.declared.sign.NoteSign.{NoteSign}
use Rattle.redl_places.specs.declared.place.StoryPlace.{StoryPlace}
use Rattle.redl_places.specs.declared.place.StoryPlace.TheVariants.{Document, Header, Footer, Comment, TextBox, Footnote, Endnote}
use Rattle.redl_places.specs.declared.place.MemberPlace.{MemberPlace}

abbrev pub is_document : StoryPlace → Bool
is_document Document = true
is_document Header = false
is_document Footer = false
is_document Comment = false
is_document TextBox = false
is_document (Footnote sign) = false
is_document (Endnote sign) = false

-- the signs of footnotes and of endnotes, by their ids
pub record Signs : Type 0 where
  pub footnote : List ℕ → Option NoteSign
  pub endnote : List ℕ → Option NoteSign

-- the place of an element's kids, from its own
abbrev pub place_in : Signs → StoryPlace → Tag → StoryPlace
place_in signs here tag =
    if is "txbxContent" tag then TextBox
    else if is "hdr" tag then Header
    else if is "ftr" tag then Footer
    else if is "comment" tag then Comment
    else if is "footnote" tag then Footnote (signs.footnote (id_in tag.tail))
    else if is "endnote" tag then Endnote (signs.endnote (id_in tag.tail))
    else here

-- a member of a revision, and no marker of its range
abbrev pub is_member : Kind → Bool
is_member kind.Plain = false
is_member (kind.Content trace) = true
is_member (kind.Mark trace) = true
is_member (kind.Row trace) = true
is_member (kind.Cell trace) = true
is_member (kind.Change prop) = true
is_member kind.Marker = false

abbrev pub own_place : StoryPlace → Tag → List MemberPlace
own_place here tag = if is_member tag.kind then record { revision = tag.rev; place = here } ∷ [] else []

-- the members among nodes in their order, each with its place
abbrev pub member_places : Signs → StoryPlace → Nodes → List MemberPlace
member_places signs here no_nodes = []
member_places signs here (bytes b rest) = member_places signs here rest
member_places signs here (element tag kids rest) =
    (own_place here tag ++ member_places signs (place_in signs here tag) kids) ++ member_places signs here rest

-- those of a story
abbrev pub story_places : Signs → Element → List MemberPlace
story_places signs root = member_places signs (place_in signs Document root.tag) root.kids

-- the place of the first member of the revision with this number
abbrev pub place_among : ℕ → List MemberPlace → StoryPlace
place_among v [] = Document
place_among v (member ∷ more) = if member.revision == v then member.place else place_among v more

-- the signs of the notes of a package
abbrev pub package_signs : Nodes → Signs
package_signs nodes = record { footnote = sign_of named.Footnote (document_references nodes); endnote = sign_of named.Endnote (document_references nodes) }

-- the place of the revision with this number
abbrev pub place_on : Nodes → ℕ → StoryPlace
place_on nodes v = place_among v (flat_map (story_places (package_signs nodes)) (stories nodes))
