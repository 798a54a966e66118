-- The lists of numbers in the page: for each story its paragraphs with a number, and the levels of their nums (our own rule). They are
-- hidden, and read by the script.
use Prim.Native.String.{String}
use Rattle.std.specs.Prelude.{ℕ, ◌==◌, Bool, true, false, not, List, [], ◌∷◌, ◌++◌, codes, decimal, length, Option, Some, None, if◌then◌else◌}
use Rattle.std.specs.List.{flat_map}
use Rattle.redl_tree.specs.Model.Nodes.{Nodes}
use Rattle.redl_numerals.specs.declared.format.Format.{Format}
use Rattle.redl_numerals.specs.declared.format.Format.TheVariants.{Decimal, DecimalZero, Padded, UpperRoman, LowerRoman, UpperLetter, LowerLetter, Ordinal, Nothing, Bullet}
use Rattle.redl_numerals.specs.declared.number.Number.{Number}
use Rattle.redl_numerals.specs.declared.number.Number.TheVariants.{Plus, Minus}
use Rattle.redl_html.specs.Pieces.{HtmlPiece, own, number, outside}
use Rattle.redl_page_numbers.specs.Walks.{StoryRows}
use Rattle.redl_page_numbers.specs.Package.{PageNumbers, package_numbers}
use Rattle.redl_page_numbers.specs.declared.row.Row.{Row}
use Rattle.redl_page_numbers.specs.declared.row.LevelRow.{LevelRow}

-- ---- paragraphs

-- a paragraph with which a section ends isn't counted where a view shows nothing of it
abbrev pub row_end : Bool → String
row_end true = "\" data-section=\"yes\">"
row_end false = "\">"

abbrev pub row_head : Row → List HtmlPiece
row_head row =
    own "<li data-paragraph=\"" ∷ number row.paragraph ∷ own "\" data-num=\"" ∷ number row.num ∷ own "\" data-level=\"" ∷ number row.level
    ∷ own (row_end row.ends_section) ∷ []

abbrev pub row_pieces : Row → List HtmlPiece
row_pieces row = row_head row ++ (outside row.text ∷ own "</li>\n" ∷ [])

-- the list of a story, if it has any
abbrev pub story_start : List ℕ → List HtmlPiece
story_start name = own "<ol class=\"numbers\" data-part=\"" ∷ outside name ∷ own "\" hidden>\n" ∷ []

abbrev pub story_list : List ℕ → List Row → List HtmlPiece
story_list name rows = if length rows == 0 then [] else story_start name ++ (flat_map row_pieces rows ++ (own "</ol>\n" ∷ []))

-- of a story that is a document, or of one that isn't
abbrev pub is_sort : Bool → Bool → Bool
is_sort true is_document = is_document
is_sort false is_document = not is_document

abbrev pub sort_list : Bool → StoryRows → List HtmlPiece
sort_list documents story = if is_sort documents story.is_document then story_list story.name story.rows else []

-- ---- levels

abbrev pub signed : Number → List HtmlPiece
signed (Plus n) = number n ∷ []
signed (Minus n) = own "-" ∷ number n ∷ []

-- a number as an attribute
abbrev pub attribute : String → Number → List HtmlPiece
attribute before n = own before ∷ signed n

-- where there is one
abbrev pub attribute_if_any : String → Option Number → List HtmlPiece
attribute_if_any before None = []
attribute_if_any before (Some n) = attribute before n

-- what is written of it
abbrev pub signed_text : Number → List ℕ
signed_text (Plus n) = decimal n
signed_text (Minus n) = codes "-" ++ decimal n

abbrev pub text_if_any : List ℕ → Option Number → List ℕ
text_if_any before None = []
text_if_any before (Some n) = before ++ signed_text n

abbrev pub format_name : Format → String
format_name Decimal = "\" data-format=\"decimal"
format_name DecimalZero = "\" data-format=\"decimalZero"
format_name (Padded width) = "\" data-format=\"padded\" data-width=\""
format_name UpperRoman = "\" data-format=\"upperRoman"
format_name LowerRoman = "\" data-format=\"lowerRoman"
format_name UpperLetter = "\" data-format=\"upperLetter"
format_name LowerLetter = "\" data-format=\"lowerLetter"
format_name Ordinal = "\" data-format=\"ordinal"
format_name Nothing = "\" data-format=\"none"
format_name Bullet = "\" data-format=\"bullet"

-- zeros up to this width
abbrev pub width_pieces : Format → List HtmlPiece
width_pieces (Padded width) = number width ∷ []
width_pieces _ = []

abbrev pub format_pieces : Format → List HtmlPiece
format_pieces format = own (format_name format) ∷ width_pieces format

abbrev pub legal_end : Bool → String
legal_end true = "\" data-legal=\"yes"
legal_end false = ""

abbrev pub picture_end : Bool → String
picture_end true = "\" data-picture=\"yes\">"
picture_end false = "\">"

abbrev pub level_head : LevelRow → List HtmlPiece
level_head row =
    own "<li data-num=\"" ∷ number row.num ∷ own "\" data-list=\"" ∷ number row.list ∷ own "\" data-level=\"" ∷ number row.level ∷ []

abbrev pub level_numbers : LevelRow → List HtmlPiece
level_numbers row =
    attribute "\" data-start=\"" row.start
    ++ (attribute_if_any "\" data-again=\"" row.again ++ attribute_if_any "\" data-restart=\"" row.restart)

abbrev pub level_end : LevelRow → List HtmlPiece
level_end row = own (legal_end row.is_legal) ∷ own (picture_end row.has_picture) ∷ outside row.text ∷ own "</li>\n" ∷ []

abbrev pub level_pieces : LevelRow → List HtmlPiece
level_pieces row = level_head row ++ (level_numbers row ++ (format_pieces row.format ++ level_end row))

abbrev pub level_list : List LevelRow → List HtmlPiece
level_list rows =
    if length rows == 0 then [] else own "<ol class=\"levels\" hidden>\n" ∷ (flat_map level_pieces rows ++ (own "</ol>\n" ∷ []))

-- ---- all of it

-- documents first, then the other stories, each in the order of the parts; and the levels
abbrev pub lists_of : PageNumbers → List HtmlPiece
lists_of numbers = flat_map (sort_list true) numbers.stories ++ (flat_map (sort_list false) numbers.stories ++ level_list numbers.levels)

-- the lists of a package
abbrev pub numbers_pieces : Nodes → List HtmlPiece
numbers_pieces nodes = lists_of (package_numbers nodes)
