-- The pictures of a package (our own rule; parts and relationships are those of ECMA-376 Part 2): its parts that are PNG, JPEG or GIF, and
-- where the relationships of pictures lead from its stories. Types are compared as they are written.
use Rattle.std.specs.Prelude.{ℕ, List, [], ◌∷◌, Bool, ◌&&◌, ◌||◌, bytes_eq, codes, is_some, Option, Some, None, if◌then◌else◌}
use Rattle.std.specs.List.{flat_map}
use Rattle.redl_tree.specs.Model.Kids.{has_element}
use Rattle.redl_tree.specs.Model.Nodes.{Tag, Nodes, no_nodes, bytes, element}
use Rattle.redl_tree.specs.Decisions.Packages.{named_pkg}
use Rattle.redl_opc.specs.Elements.{Element, elements_of}
use Rattle.redl_opc.specs.Parts.{name_in}
use Rattle.redl_opc.specs.Shape.{parts_of, story_of}
use Rattle.redl_relations.specs.Relations.{has_type, name_at, relations_of}
use Rattle.redl_relations.specs.Values.{value_in}
use Rattle.redl_page_pictures.specs.declared.lead.PictureLead.{PictureLead}

-- ---- images

-- a part that is a picture: its name, its type and its data
pub record Image : Type 0 where
  pub name : List ℕ
  pub kind : List ℕ
  pub text : List ℕ

abbrev pub kind_of : Tag → List ℕ
kind_of tag = value_in tag.tail (codes "contentType")

-- the types that are shown
abbrev pub is_shown : List ℕ → Bool
is_shown kind = bytes_eq kind (codes "image/png") || (bytes_eq kind (codes "image/jpeg") || bytes_eq kind (codes "image/gif"))

abbrev pub is_image : Tag → Bool
is_image tag = named_pkg (codes "part") tag && is_shown (kind_of tag)

abbrev pub first_text : Nodes → List ℕ
first_text no_nodes = []
first_text (bytes b rest) = b
first_text (element tag kids rest) = []

-- the text of an element that holds text alone
abbrev pub text_alone : Nodes → List ℕ
text_alone kids = if has_element kids then [] else first_text kids

-- the image in an element of the part with this tag, if that element is binary data
abbrev pub image_in : Tag → Element → List Image
image_in part e =
    if named_pkg (codes "binaryData") e.tag then record { name = name_in part; kind = kind_of part; text = text_alone e.kids } ∷ [] else []

-- the images that a part is: it holds one element
abbrev pub images_of : Element → List Image
images_of part = if is_image part.tag then flat_map (image_in part.tag) (elements_of part.kids) else []

-- ---- where relationships lead

-- the relationship of a picture, of those of the part with the name `source`
abbrev pub lead_of : List ℕ → Element → PictureLead
lead_of source e = record { source = source; id = value_in e.tag.tail (codes "Id"); image = name_at source e }

abbrev pub lead_in : List ℕ → Element → List PictureLead
lead_in source e = if has_type (codes "/image") e.tag then lead_of source e ∷ [] else []

abbrev pub leads_below : List ℕ → Option Element → List PictureLead
leads_below source None = []
leads_below source (Some root) = flat_map (lead_in source) (elements_of root.kids)

-- those of a story
abbrev pub is_story_part : Element → Bool
is_story_part part = named_pkg (codes "part") part.tag && is_some (story_of part)

abbrev pub leads_of : Nodes → Element → List PictureLead
leads_of nodes part = if is_story_part part then leads_below (name_in part.tag) (relations_of nodes (name_in part.tag)) else []

-- ---- those of a package, in the order of its parts

pub record Pictures : Type 0 where
  pub images : List Image
  pub leads : List PictureLead

abbrev pub package_pictures : Nodes → Pictures
package_pictures nodes = record { images = flat_map images_of (parts_of nodes); leads = flat_map (leads_of nodes) (parts_of nodes) }
