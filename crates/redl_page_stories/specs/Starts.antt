-- What stands behind the opening of a paragraph, a cell, a picture, a break, a symbol, a comment and a structure of an equation.
use Prim.Native.String.{String}
use Rattle.std.specs.Prelude.{ℕ, ◌==◌, Bool, ◌&&◌, ◌||◌, List, [], ◌∷◌, ◌++◌, Option, Some, None, bytes_eq, codes, encode_utf8, length, nat_le, nat_lt, if◌then◌else◌}
use Rattle.redl_tree.specs.Model.Nodes.{Nodes}
use Rattle.redl_shown.specs.Shown.{shown}
use Rattle.redl_html.specs.Escaping.{escaped}
use Rattle.redl_html.specs.Pieces.{HtmlPiece, own, outside}
use Rattle.redl_grammar.specs.References.{reference_at}
use Rattle.redl_page_stories.specs.declared.values.Property.TheVariants.{Style, Direction, Span, Merge}
use Rattle.redl_page_stories.specs.Values.{is_off, value_of}

-- ---- values of properties

-- a paragraph from right to left
abbrev pub direction_pieces : Option (List ℕ) → List HtmlPiece
direction_pieces None = []
direction_pieces (Some value) = if is_off (Some value) then [] else own " dir=\"rtl\"" ∷ []

-- a cell over several columns
abbrev pub span_pieces : Option (List ℕ) → List HtmlPiece
span_pieces None = []
span_pieces (Some value) = own " colspan=\"" ∷ outside (shown value) ∷ own "\"" ∷ []

-- a cell that goes on from the one above
abbrev pub merge_pieces : Option (List ℕ) → List HtmlPiece
merge_pieces None = []
merge_pieces (Some value) = if bytes_eq value (codes "restart") then [] else own " class=\"merged\"" ∷ []

-- the end of the start tag of a paragraph with this style, as it is written, if it has one
abbrev pub style_pieces : Option (List ℕ) → List HtmlPiece
style_pieces None = own ">" ∷ []
style_pieces (Some style) = own " data-style=\"" ∷ outside (shown style) ∷ own "\">" ∷ []

-- ---- comments

-- the end of the start tag of an element for the comment with this id, as it is written, if it has one
abbrev pub remark_pieces : Option (List ℕ) → List HtmlPiece
remark_pieces None = own ">" ∷ []
remark_pieces (Some id) = own " data-remark=\"" ∷ outside (shown id) ∷ own "\">" ∷ []

-- the same, and the end of an element that is empty
abbrev pub empty_remark : Option (List ℕ) → List HtmlPiece
empty_remark id = remark_pieces id ++ (own "</span>" ∷ [])

-- ---- signs of equations

-- a sign that is given, or else this one
abbrev pub sign_piece : String → Option (List ℕ) → HtmlPiece
sign_piece usual None = own usual
sign_piece usual (Some sign) = outside (shown sign)

-- what is written of it
abbrev pub sign_text : List ℕ → Option (List ℕ) → List ℕ
sign_text usual None = usual
sign_text usual (Some sign) = escaped (shown sign)

-- ---- pictures

-- what the document says that a picture shows
abbrev pub said_pieces : List ℕ → List HtmlPiece
said_pieces text = own ": " ∷ outside (shown text) ∷ own "</span>" ∷ []

-- the end of the word for a picture, after that
abbrev pub description_pieces : Option (List ℕ) → List HtmlPiece
description_pieces None = own "</span>" ∷ []
description_pieces (Some text) = if length text == 0 then own "</span>" ∷ [] else said_pieces text

-- the end of the start tag of the word, with the relationship that leads to the picture, as its id is written
abbrev pub embed_pieces : Option (List ℕ) → List HtmlPiece
embed_pieces None = own ">picture" ∷ []
embed_pieces (Some id) = own " data-embed=\"" ∷ outside (shown id) ∷ own "\">picture" ∷ []

abbrev pub picture_pieces : Option (List ℕ) → Option (List ℕ) → List HtmlPiece
picture_pieces embed description = embed_pieces embed ++ description_pieces description

-- ---- breaks

-- where a page or a column ends, in place of a line alone (17.3.3.1 and 17.18.3)
abbrev pub break_pieces : Option (List ℕ) → List HtmlPiece
break_pieces None = []
break_pieces (Some sort) =
    if bytes_eq sort (codes "page") then own "<span class=\"page-end\"></span>" ∷ []
    else if bytes_eq sort (codes "column") then own "<span class=\"column-end\"></span>" ∷ []
    else []

-- ---- symbols

-- a character that fonts agree on: no control character, and none for private use
abbrev pub is_agreed : ℕ → Bool
is_agreed c = (nat_le 0x20 c && nat_lt c 0x7F) || (nat_le 0xA0 c && nat_lt c 0xE000) || nat_le 0xF900 c

-- a character that is shown, or else a box
abbrev pub character_piece : ℕ → HtmlPiece
character_piece c = if is_agreed c then outside (encode_utf8 c) else own "&#9633;"

-- the character of a reference
abbrev pub referenced : Option (ℕ × List ℕ) → HtmlPiece
referenced None = own "&#9633;"
referenced (Some x) = character_piece x.0

-- the symbol with this number, of four hexadecimal digits (17.3.3.30)
unfoldable pub numbered : List ℕ → HtmlPiece
numbered (a ∷ b ∷ c ∷ d ∷ []) = referenced (reference_at (35 ∷ 120 ∷ a ∷ b ∷ c ∷ d ∷ 59 ∷ []))
numbered _ = own "&#9633;"

abbrev pub symbol_piece : Option (List ℕ) → HtmlPiece
symbol_piece None = own "&#9633;"
symbol_piece (Some digits) = numbered digits

abbrev pub symbol_pieces : Option (List ℕ) → List HtmlPiece
symbol_pieces digits = symbol_piece digits ∷ own "</span>" ∷ []

-- ---- paragraphs and cells

abbrev pub paragraph_pieces : Nodes → List HtmlPiece
paragraph_pieces kids = direction_pieces (value_of Direction kids) ++ style_pieces (value_of Style kids)

abbrev pub cell_pieces : Nodes → List HtmlPiece
cell_pieces kids = span_pieces (value_of Span kids) ++ (merge_pieces (value_of Merge kids) ++ (own ">" ∷ []))
