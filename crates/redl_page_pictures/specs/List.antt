-- The list of pictures in a page (our own rule): first each image once, in an address of its data (RFC 2397), and then for each
-- relationship of a picture from a story, the name of the image to which it leads. Of the data only the base64 alphabet is written, since
-- nothing else means anything in it (RFC 2045, 6.8).
use Rattle.std.specs.Prelude.{ℕ, List, [], ◌∷◌, ◌++◌, Bool, ◌==◌, ◌&&◌, ◌||◌, not, nat_lt, filter}
use Rattle.std.specs.List.{flat_map}
use Rattle.redl_tree.specs.Model.Nodes.{Nodes}
use Rattle.redl_html.specs.Pieces.{HtmlPiece, own, outside}
use Rattle.redl_page_pictures.specs.Pictures.{Image, Pictures, package_pictures}
use Rattle.redl_page_pictures.specs.declared.lead.PictureLead.{PictureLead}

abbrev pub is_between : ℕ → ℕ → ℕ → Bool
is_between first last b = not (nat_lt b first) && not (nat_lt last b)

-- a letter, a digit, `/`, `+` or `=`
abbrev pub is_base64 : ℕ → Bool
is_base64 b = is_between 65 90 b || (is_between 97 122 b || (is_between 47 57 b || (b == 43 || b == 61)))

abbrev pub image_start : Image → List HtmlPiece
image_start image = own "<li data-image=\"" ∷ outside image.name ∷ own "\"><img alt=\"\" src=\"data:" ∷ outside image.kind ∷ []

abbrev pub image_end : Image → List HtmlPiece
image_end image = own ";base64," ∷ outside (filter is_base64 image.text) ∷ own "\"></li>\n" ∷ []

abbrev pub image_item : Image → List HtmlPiece
image_item image = image_start image ++ image_end image

abbrev pub lead_item : PictureLead → List HtmlPiece
lead_item lead =
    own "<li data-part=\"" ∷ outside lead.source ∷ own "\" data-embed=\"" ∷ outside lead.id ∷ own "\" data-image=\"" ∷ outside lead.image
    ∷ own "\"></li>\n" ∷ []

abbrev pub pictures : Pictures → List HtmlPiece
pictures found =
    own "<ul class=\"pictures\" hidden>\n" ∷ (flat_map image_item found.images ++ (flat_map lead_item found.leads ++ (own "</ul>\n" ∷ [])))

-- those of a package
abbrev pub package_list : Nodes → List HtmlPiece
package_list nodes = pictures (package_pictures nodes)
