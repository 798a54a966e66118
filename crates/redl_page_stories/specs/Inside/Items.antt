-- What one node of a list is, has or shows: bytes, an element, or idle elements that the list keeps as text.
use Rattle.std.specs.Prelude.{ℕ, List, [], Bool, false, ◌&&◌, ◌||◌, Option, None, if◌then◌else◌}
use Rattle.std.specs.Option.{option_or}
use Rattle.redl_tree.specs.Model.IdleTexts.{idle_nodes}
use Rattle.redl_tree.specs.Model.Nodes.{Tag, Nodes, Item, bytes_item, element_item, idle_item}
use Rattle.redl_tree.specs.Roles.Kinds.{is_mark}
use Rattle.redl_tree.specs.Roles.Names.{is}
use Rattle.redl_index.specs.declared.revision.Revision.{Revision}
use Rattle.redl_page_stories.specs.declared.values.Property.{Property}
use Rattle.redl_page_stories.specs.declared.marks.Depth.{Depth}
use Rattle.redl_page_stories.specs.declared.marks.Depth.TheVariants.{Kids, Properties, RunProperties}
use Rattle.redl_page_stories.specs.declared.place.PageSummary.{PageSummary}
use Rattle.redl_page_stories.specs.Document.{bytes_pieces, element_pieces, inside, marks_in, nodes_pieces}
use Rattle.redl_html.specs.Pieces.{HtmlPiece}
use Rattle.redl_page_stories.specs.Facts.{Facts}
use Rattle.redl_page_stories.specs.Shapes.{holds_blocks, is_block, switched_on, switches}
use Rattle.redl_page_stories.specs.Values.{embed_by, embed_in, given_by, holds, value_in}
use Rattle.redl_page_stories.specs.Signs.{member}

-- ---- blocks

-- it is a block, or one is in it
abbrev pub item_holds : Item → Bool
item_holds (bytes_item b) = false
item_holds (element_item tag kids) = is_block tag || holds_blocks kids
item_holds (idle_item t) = false

-- ---- properties of runs

-- it switches on the property of this name
abbrev pub item_switches : List ℕ → Item → Bool
item_switches name (bytes_item b) = false
item_switches name (element_item tag kids) = switches name tag
item_switches name (idle_item t) = switched_on name (idle_nodes t)

-- it does so for the run that it is in
abbrev pub item_has_property : List ℕ → Item → Bool
item_has_property name (bytes_item b) = false
item_has_property name (element_item tag kids) = is "rPr" tag && switched_on name kids
item_has_property name (idle_item t) = false

-- ---- values of properties

-- what it gives as a property
abbrev pub item_value_in : Property → Item → Option (List ℕ)
item_value_in property (bytes_item b) = None
item_value_in property (element_item tag kids) = given_by property tag
item_value_in property (idle_item t) = value_in property (idle_nodes t)

-- the relationship to a picture that is given in it
abbrev pub item_embed : Item → Option (List ℕ)
item_embed (bytes_item b) = None
item_embed (element_item tag kids) = option_or (embed_by tag) (embed_in kids)
item_embed (idle_item t) = None

-- what the properties that it is give
abbrev pub item_value : Property → Item → Option (List ℕ)
item_value property (bytes_item b) = None
item_value property (element_item tag kids) = if holds property tag then value_in property kids else None
item_value property (idle_item t) = None

-- ---- the marks of a paragraph

-- the members of a mark that an element is or holds
abbrev pub element_marks : List Revision → Depth → Tag → Nodes → List HtmlPiece
element_marks revisions Kids tag kids = if is "pPr" tag then marks_in revisions Properties kids else []
element_marks revisions Properties tag kids = if is "rPr" tag then marks_in revisions RunProperties kids else []
element_marks revisions RunProperties tag kids = if is_mark tag.kind then member revisions tag.kind tag.rev else []

-- the same of a node
abbrev pub item_marks : List Revision → Depth → Item → List HtmlPiece
item_marks revisions depth (bytes_item b) = []
item_marks revisions depth (element_item tag kids) = element_marks revisions depth tag kids
item_marks revisions depth (idle_item t) = []

-- ---- all that is shown of it

abbrev pub item_pieces : (List ℕ → List ℕ) → Facts → PageSummary → Item → List HtmlPiece
item_pieces shown facts place (bytes_item b) = bytes_pieces shown place b
item_pieces shown facts place (element_item tag kids) =
    element_pieces facts place tag kids (nodes_pieces shown facts (inside facts.hidden tag kids place) kids)
item_pieces shown facts place (idle_item t) = nodes_pieces shown facts place (idle_nodes t)
