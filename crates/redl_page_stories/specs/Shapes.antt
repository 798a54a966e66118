-- How elements are shown that are in no revision (ECMA-376 Part 1, 17.3, 17.4 and 17.11; HTML, the living standard; our own rule):
-- by their names, where no ancestor holds properties. Of properties, hidden, bold and italic runs are shown, the style and the direction
-- of a paragraph, and which cells are merged. Which runs are hidden is `redl_hidden`' rule.
use Prim.Native.String.{String}
use Rattle.std.specs.Prelude.{ℕ, Bool, true, false, ◌&&◌, ◌||◌, not, List, [], ◌∷◌, None, bytes_eq, codes, is_some, if◌then◌else◌}
use Rattle.redl_tree.specs.Model.Nodes.{Tag, Nodes, no_nodes, bytes, element}
use Rattle.redl_tree.specs.Roles.Names.{is, is_m, is_math, named}
use Rattle.redl_stamp.specs.Attribute.{attribute_value, written_value}
use Rattle.redl_html.specs.Pieces.{HtmlPiece}
use Rattle.redl_hidden.specs.Styles.{HiddenStyles}
use Rattle.redl_hidden.specs.Runs.{run_hides}
use Rattle.redl_places.specs.Places.{Signs}
use Rattle.redl_page_stories.specs.declared.values.Property.TheVariants.{OperatorSign, AccentSign, FirstDelimiter, LastDelimiter, Description}
use Rattle.redl_page_stories.specs.declared.place.PageSummary.{PageSummary}
use Rattle.redl_page_stories.specs.declared.shape.Shape.{Shape}
use Rattle.redl_page_stories.specs.declared.shape.Shape.TheVariants.{Nothing, Paragraph, Division, Table, Row, Cell, TextBox, Bold, Italic, BoldItalic, Hidden, HiddenBold, HiddenItalic, HiddenBoldItalic, Tab, Break, Hyphen, SoftHyphen, Symbol, Picture, FootnoteReference, EndnoteReference, RemarkStart, RemarkEnd, RemarkReference, Footnote, Endnote, Remark, Blocks, Foreign, OtherForm, Equation, Argument, Divisor, Below, Above, Bracketed, Root, Operator, Accent, Delimiters}
use Rattle.redl_page_stories.specs.Values.{embed_in, is_other, is_off, value_of}
use Rattle.redl_page_stories.specs.Notes.{endnote_sign, footnote_sign, note_pieces}
use Rattle.redl_page_stories.specs.Starts.{break_pieces, cell_pieces, empty_remark, paragraph_pieces, picture_pieces, remark_pieces, sign_piece, symbol_pieces}

-- content that a file keeps in a second form, for programs that can't read the first (ECMA-376 Part 3, 9.3)
abbrev pub is_other_form : Tag → Bool
is_other_form tag = is_other tag.space && bytes_eq tag.local (codes "Fallback")

-- an element that HTML does not allow in a `p`
abbrev pub is_block : Tag → Bool
is_block tag = is "p" tag || is "tbl" tag || is_other_form tag

-- there is one at some depth
abbrev pub holds_blocks : Nodes → Bool
holds_blocks no_nodes = false
holds_blocks (bytes b rest) = holds_blocks rest
holds_blocks (element tag kids rest) = is_block tag || holds_blocks kids || holds_blocks rest

-- ---- hidden, bold and italic runs

-- the element has this name, and switches its property on
abbrev pub switches : List ℕ → Tag → Bool
switches name tag = named name tag && not (is_off (written_value tag.tail (codes "val")))

-- one of these elements does
abbrev pub switched_on : List ℕ → Nodes → Bool
switched_on name no_nodes = false
switched_on name (bytes b rest) = switched_on name rest
switched_on name (element tag kids rest) = switches name tag || switched_on name rest

-- a run with these kids has the property (17.3.2)
abbrev pub has_property : List ℕ → Nodes → Bool
has_property name no_nodes = false
has_property name (bytes b rest) = has_property name rest
has_property name (element tag kids rest) = (is "rPr" tag && switched_on name kids) || has_property name rest

-- a run that is bold or not, and italic or not (17.3.2.1 and 17.3.2.16)
abbrev pub set_shape : Bool → Bool → Shape
set_shape false false = Nothing
set_shape true false = Bold
set_shape false true = Italic
set_shape true true = BoldItalic

-- the same of a hidden run (17.3.2.41)
abbrev pub hidden_shape : Bool → Bool → Shape
hidden_shape false false = Hidden
hidden_shape true false = HiddenBold
hidden_shape false true = HiddenItalic
hidden_shape true true = HiddenBoldItalic

-- a run with these kids, in a paragraph that hides its runs or not
abbrev pub run_shape : HiddenStyles → Bool → Nodes → Shape
run_shape hidden paragraph kids =
    if run_hides hidden paragraph kids then hidden_shape (has_property (codes "b") kids) (has_property (codes "i") kids)
    else set_shape (has_property (codes "b") kids) (has_property (codes "i") kids)

-- ---- notes and comments

-- what refers to a note or to a comment (17.11.7, 17.11.14, 17.13.4.3 to 17.13.4.5), or else nothing
abbrev pub reference_shape : Tag → Shape
reference_shape tag =
    if is "footnoteReference" tag then FootnoteReference
    else if is "endnoteReference" tag then EndnoteReference
    else if is "commentRangeStart" tag then RemarkStart
    else if is "commentRangeEnd" tag then RemarkEnd
    else if is "commentReference" tag then RemarkReference
    else Nothing

-- ---- lists of blocks

-- an element that may hold a list of blocks of its own: no paragraph in it is joined with one outside
abbrev pub holds_list : Tag → Bool
holds_list tag = is "sdt" tag || is "customXml" tag || is "footnote" tag || is "endnote" tag || is "comment" tag

-- a note that is no separator (17.11), or else a list of blocks
abbrev pub noted : Shape → Tag → Shape
noted note tag = if is_some (attribute_value tag.tail (codes "type")) then Blocks else note

abbrev pub list_shape : Tag → Shape
list_shape tag =
    if is "footnote" tag then noted Footnote tag
    else if is "endnote" tag then noted Endnote tag
    else if is "comment" tag then Remark
    else Blocks

-- an element that among blocks is one of its own, and no paragraph
abbrev pub is_foreign : Tag → Bool
is_foreign tag = is "altChunk" tag || is_other tag.space

-- ---- equations

-- What an element of mathematics is shown as (22.1.2): an equation as its linear text, in which each argument of a structure is in
-- brackets, after a sign that says what it is.
abbrev pub math_shape : Tag → Shape
math_shape tag =
    if is_math "oMath" tag then Equation
    else if is_math "e" tag || is_math "num" tag then Argument
    else if is_math "den" tag then Divisor
    else if is_math "sub" tag || is_math "lim" tag then Below
    else if is_math "sup" tag then Above
    else if is_math "deg" tag || is_math "mr" tag then Bracketed
    else if is_math "rad" tag then Root
    else if is_math "nary" tag then Operator
    else if is_math "acc" tag then Accent
    else if is_math "d" tag then Delimiters
    else Nothing

-- ---- shapes

-- what an element is shown as by its name, where it is no block, and as a reference is shown so
abbrev pub inline_shape : Shape → Tag → Shape
inline_shape reference tag =
    if is "tab" tag then Tab
    else if is "br" tag || is "cr" tag then Break
    else if is "noBreakHyphen" tag then Hyphen
    else if is "softHyphen" tag then SoftHyphen
    else if is "sym" tag then Symbol
    else if is "drawing" tag || is "pict" tag || is "object" tag then Picture
    else reference

abbrev pub inline_named : Tag → Shape
inline_named tag = inline_shape (reference_shape tag) tag

-- what an element is shown as by its name, in a paragraph that hides its runs or not
abbrev pub shape_named : HiddenStyles → Bool → Tag → Nodes → Shape
shape_named hidden paragraph tag kids =
    if is "p" tag then (if holds_blocks kids then Division else Paragraph)
    else if is "r" tag then run_shape hidden paragraph kids
    else if is "tbl" tag then Table
    else if is "tr" tag then Row
    else if is "tc" tag then Cell
    else if is "txbxContent" tag then TextBox
    else if is_other_form tag then OtherForm
    else if holds_list tag then list_shape tag
    else if is_foreign tag then Foreign
    else if is_m tag.space then math_shape tag
    else inline_named tag

-- the same where no ancestor holds properties, and else nothing
abbrev pub shape_of : HiddenStyles → PageSummary → Tag → Nodes → Shape
shape_of hidden place tag kids = if place.loud then shape_named hidden place.hides tag kids else Nothing

-- what comes before the kids; the rest of the start tag of a paragraph, of a cell, of a picture and of what refers to a comment comes
-- behind it, and behind the start of a note its sign. A comment of HTML says where blocks begin and end that are not joined with those
-- outside.
abbrev pub opening : Shape → String
opening Nothing = ""
opening Paragraph = "<p"
opening Division = "<div class=\"p\""
opening Table = "<table>\n"
opening Row = "<tr>"
opening Cell = "<td"
opening TextBox = "<span class=\"box\">"
opening Bold = "<b>"
opening Italic = "<i>"
opening BoldItalic = "<b><i>"
opening Hidden = "<span class=\"hidden\">"
opening HiddenBold = "<span class=\"hidden\"><b>"
opening HiddenItalic = "<span class=\"hidden\"><i>"
opening HiddenBoldItalic = "<span class=\"hidden\"><b><i>"
opening Tab = "\t"
opening Break = "<br>"
opening Hyphen = "&#8209;"
opening SoftHyphen = "&#173;"
opening Picture = "<span class=\"picture\""
opening Symbol = "<span class=\"symbol\">"
opening FootnoteReference = "<sup>"
opening EndnoteReference = "<sup>"
opening RemarkStart = "<span class=\"remark-start\""
opening RemarkEnd = "<span class=\"remark-end\""
opening RemarkReference = "<sup class=\"remark\""
opening Footnote = "<!--list--><sup>"
opening Endnote = "<!--list--><sup>"
opening Remark = "<!--list--><span class=\"remark-own\""
opening Blocks = "<!--list-->"
opening Foreign = "<!--other-->"
opening OtherForm = "<details><summary>kept in another form</summary>"
opening Equation = "<span class=\"equation\">"
opening Argument = "("
opening Divisor = "/("
opening Below = "_("
opening Above = "^("
opening Bracketed = "["
opening Root = "&#8730;"
opening Operator = ""
opening Accent = "&#9676;"
opening Delimiters = ""

-- what comes after them
abbrev pub closing : Shape → String
closing Nothing = ""
closing Paragraph = "</p>\n"
closing Division = "</div>\n"
closing Table = "</table>\n"
closing Row = "</tr>\n"
closing Cell = "</td>"
closing TextBox = "</span>"
closing Bold = "</b>"
closing Italic = "</i>"
closing BoldItalic = "</i></b>"
closing Hidden = "</span>"
closing HiddenBold = "</b></span>"
closing HiddenItalic = "</i></span>"
closing HiddenBoldItalic = "</i></b></span>"
closing Tab = ""
closing Break = ""
closing Hyphen = ""
closing SoftHyphen = ""
closing Picture = ""
closing Symbol = ""
closing FootnoteReference = ""
closing EndnoteReference = ""
closing RemarkStart = "</span>"
closing RemarkEnd = "</span>"
closing RemarkReference = "</sup>"
closing Footnote = "<!--/list-->"
closing Endnote = "<!--/list-->"
closing Remark = "<!--/list-->"
closing Blocks = "<!--/list-->"
closing Foreign = "<!--/other-->"
closing OtherForm = "</details>"
closing Equation = "</span>"
closing Argument = ")"
closing Divisor = ")"
closing Below = ")"
closing Above = ")"
closing Bracketed = "]"
closing Root = ""
closing Operator = ""
closing Accent = ""
closing Delimiters = ""

-- a paragraph
abbrev pub is_paragraph : Shape → Bool
is_paragraph Paragraph = true
is_paragraph Division = true
is_paragraph _ = false

-- ---- what comes behind the opening

-- what an element with this tail shows whose kids tell nothing: a picture of which nothing is said is one
abbrev pub behind_alone : Signs → Shape → List ℕ → List HtmlPiece
behind_alone signs Picture tail = picture_pieces None None
behind_alone signs Break tail = break_pieces (written_value tail (codes "type"))
behind_alone signs Symbol tail = symbol_pieces (written_value tail (codes "char"))
behind_alone signs FootnoteReference tail = note_pieces (footnote_sign signs tail)
behind_alone signs EndnoteReference tail = note_pieces (endnote_sign signs tail)
behind_alone signs Footnote tail = note_pieces (footnote_sign signs tail)
behind_alone signs Endnote tail = note_pieces (endnote_sign signs tail)
behind_alone signs RemarkStart tail = remark_pieces (written_value tail (codes "id"))
behind_alone signs RemarkEnd tail = remark_pieces (written_value tail (codes "id"))
behind_alone signs RemarkReference tail = remark_pieces (written_value tail (codes "id"))
behind_alone signs Remark tail = empty_remark (written_value tail (codes "id"))
behind_alone signs _ tail = []

abbrev pub behind_opening : Signs → Shape → Tag → Nodes → List HtmlPiece
behind_opening signs Paragraph tag kids = paragraph_pieces kids
behind_opening signs Division tag kids = paragraph_pieces kids
behind_opening signs Cell tag kids = cell_pieces kids
behind_opening signs Picture tag kids = picture_pieces (embed_in kids) (value_of Description kids)
behind_opening signs Operator tag kids = sign_piece "&#8747;" (value_of OperatorSign kids) ∷ []
behind_opening signs Accent tag kids = sign_piece "&#770;" (value_of AccentSign kids) ∷ []
behind_opening signs Delimiters tag kids = sign_piece "" (value_of FirstDelimiter kids) ∷ []
behind_opening signs shape tag kids = behind_alone signs shape tag.tail

-- what comes before the closing: round brackets that are those of the arguments need no others
abbrev pub before_closing : Shape → Nodes → List HtmlPiece
before_closing Delimiters kids = sign_piece "" (value_of LastDelimiter kids) ∷ []
before_closing _ kids = []
