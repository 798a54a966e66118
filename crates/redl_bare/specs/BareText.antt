-- The bare text (our own rule): the units of a document with their marks, and nothing of how a file is made. Characters that follow
-- one another and have equal marks are one line; each other unit has a line of its own.
use Rattle.std.specs.Prelude.{ℕ, List, [], ◌∷◌, ◌++◌, ◌==◌, Bool, false, codes, Option, Some, None, if◌then◌else◌}
use Rattle.std.specs.List.{flat_map}
use Rattle.redl_tree.specs.Model.Nodes.{Nodes}
use Rattle.redl_tree.specs.declared.kinds.Trace.{Trace}
use Rattle.redl_tree.specs.declared.kinds.Trace.TheVariants.{Ins, Del, From, To}
use Rattle.redl_tree.specs.declared.kinds.Kind.{Kind}
use Rattle.redl_tree.specs.declared.kinds.Kind.TheVariants.{Mark as MarkMember, Row as RowMember, Cell as CellMember, Change}
use Rattle.redl_tree.specs.declared.kinds.Prop.{Prop}
use Rattle.redl_tree.specs.declared.kinds.Prop.TheVariants as props
use Rattle.redl_shown.specs.Shown.{shown}
use Rattle.redl_bare.specs.Marks.{Stamp, Mark, Marks, same_marks}
use Rattle.redl_bare.specs.declared.object.Object.{Object}
use Rattle.redl_bare.specs.declared.object.Object.TheVariants.{Picture, FootnoteReference, EndnoteReference, Symbol, PlaceTab, SoftHyphen, FieldBegin, FieldSeparate, FieldEnd}
use Rattle.redl_bare.specs.Units.{byte, object, BareUnit, text, thing, member, story}
use Rattle.redl_bare.specs.Package.{package_units}
use Rattle.redl_marks.specs.declared.sign.Sign.{Sign}
use Rattle.redl_marks.specs.declared.sign.Sign.TheVariants.{Inserted, Deleted, MovedTo, MovedFrom, Formatted}
use Rattle.redl_bare.specs.declared.units.Thing.{Thing}
use Rattle.redl_bare.specs.declared.units.Thing.TheVariants.{Paragraph, Row, Cell}
use Rattle.redl_bare.specs.declared.units.Story.{Story}
use Rattle.redl_bare.specs.declared.units.Story.TheVariants.{Document, Header, Footer, Footnote, Endnote}

-- ---- characters

-- a backslash, a tab, a newline and a carriage return are written with a backslash before a letter, or twice
abbrev pub byte_escaped : ℕ → List ℕ
byte_escaped b =
    if b == 92 then 92 ∷ 92 ∷ []
    else if b == 9 then 92 ∷ codes "t"
    else if b == 10 then 92 ∷ codes "n"
    else if b == 13 then 92 ∷ codes "r"
    else b ∷ []

abbrev pub escaped : List ℕ → List ℕ
escaped bytes = flat_map byte_escaped bytes

-- ---- marks

-- an author and a minute, as their references say them
abbrev pub stamp_text : Stamp → List ℕ
stamp_text stamp = escaped (shown stamp.author) ++ (9 ∷ escaped (shown stamp.minute))

abbrev pub sign_name : Sign → List ℕ
sign_name Inserted = codes "ins"
sign_name Deleted = codes "del"
sign_name MovedTo = codes "move-to"
sign_name MovedFrom = codes "move-from"
sign_name Formatted = codes "run-props"

-- a mark has a tab after each of its fields
abbrev pub mark_text : Mark → List ℕ
mark_text mark = sign_name mark.sign ++ (9 ∷ (stamp_text mark.stamp ++ (9 ∷ [])))

abbrev pub marks_text : Marks → List ℕ
marks_text marks = flat_map mark_text marks

-- ---- lines

abbrev pub object_name : Object → List ℕ
object_name Picture = codes "picture"
object_name FootnoteReference = codes "footnote"
object_name EndnoteReference = codes "endnote"
object_name Symbol = codes "symbol"
object_name PlaceTab = codes "ptab"
object_name SoftHyphen = codes "softHyphen"
object_name FieldBegin = codes "field begin"
object_name FieldSeparate = codes "field separate"
object_name FieldEnd = codes "field end"

abbrev pub thing_name : Thing → List ℕ
thing_name Paragraph = codes "paragraph"
thing_name Row = codes "row"
thing_name Cell = codes "cell"

abbrev pub story_name : Story → List ℕ
story_name Document = codes "document"
story_name Header = codes "header"
story_name Footer = codes "footer"
story_name Footnote = codes "footnote"
story_name Endnote = codes "endnote"

abbrev pub trace_name : Trace → List ℕ
trace_name Ins = codes "ins"
trace_name Del = codes "del"
trace_name From = codes "from"
trace_name To = codes "to"

abbrev pub prop_name : Prop → List ℕ
prop_name props.Run = codes "run-props"
prop_name props.Para = codes "para-props"
prop_name props.Sect = codes "sect-props"
prop_name props.Table = codes "table-props"
prop_name props.Except = codes "except-props"
prop_name props.Row = codes "row-props"
prop_name props.Cell = codes "cell-props"

-- the name that a member of this kind has in listings
abbrev pub member_name : Kind → List ℕ
member_name (MarkMember trace) = codes "mark-" ++ trace_name trace
member_name (RowMember trace) = codes "row-" ++ trace_name trace
member_name (CellMember trace) = codes "cell-" ++ trace_name trace
member_name (Change prop) = prop_name prop
member_name _ = []

-- the line of something with this name and these marks
abbrev pub named_line : Marks → List ℕ → List ℕ
named_line marks name = marks_text marks ++ (codes "*" ++ (name ++ (10 ∷ [])))

-- The end of the line of characters that is open, if one is.
abbrev pub closing : Option Marks → List ℕ
closing None = []
closing (Some marks) = 10 ∷ []

abbrev pub goes_on : Option Marks → Marks → Bool
goes_on None marks = false
goes_on (Some line) marks = same_marks line marks

-- what comes before a character with these marks: nothing where its line is open
abbrev pub text_begin : Option Marks → Marks → List ℕ
text_begin line marks = if goes_on line marks then [] else closing line ++ (marks_text marks ++ codes "|")

-- the line that is open once a character with these marks has begun
abbrev pub begun : Option Marks → Marks → Option Marks
begun line marks = if goes_on line marks then line else Some marks

-- what is written of a unit
abbrev pub unit_text : Option Marks → BareUnit → List ℕ
unit_text line (text marks (byte b)) = text_begin line marks ++ byte_escaped b
unit_text line (text marks (object o)) = closing line ++ named_line marks (object_name o)
unit_text line (thing marks t) = closing line ++ named_line marks (thing_name t)
unit_text line (member kind stamp) =
    closing line ++ (codes "+" ++ (member_name kind ++ (9 ∷ (stamp_text stamp ++ (10 ∷ [])))))
unit_text line (story s) = closing line ++ (codes "= " ++ (story_name s ++ (10 ∷ [])))

-- the line that is open after a unit
abbrev pub line_after : Option Marks → BareUnit → Option Marks
line_after line (text marks (byte b)) = begun line marks
line_after line _ = None

abbrev pub lines : Option Marks → List BareUnit → List ℕ
lines line [] = []
lines line (u ∷ us) = unit_text line u ++ lines (line_after line u) us

abbrev pub line_after_all : Option Marks → List BareUnit → Option Marks
line_after_all line [] = line
line_after_all line (u ∷ us) = line_after_all (line_after line u) us

-- the text of units
abbrev pub units_text : List BareUnit → List ℕ
units_text units = lines None units ++ closing (line_after_all None units)

-- the bare text of a package
abbrev pub bare_text : Nodes → List ℕ
bare_text nodes = units_text (package_units nodes)
