-- The units of a document (our own rule; ECMA-376 Part 1, 17.3 and 17.4 for the elements): what a reader can see and decide, in order,
-- each with its marks. Nothing in properties is a unit, but a member of a revision there has a line of its own where it is.
use Rattle.std.specs.Prelude.{ℕ, List, [], ◌∷◌, ◌++◌, map, Bool, true, false, ◌&&◌, ◌||◌, codes, bytes_eq, is_some, if◌then◌else◌}
use Rattle.redl_tree.specs.Model.Nodes.{Tag, Nodes, no_nodes, bytes, element}
use Rattle.redl_tree.specs.Model.View.{Element}
use Rattle.redl_tree.specs.Roles.Names.{is, is_any}
use Rattle.redl_tree.specs.Roles.Places.{is_quiet}
use Rattle.redl_tree.specs.declared.kinds.Space.{Space}
use Rattle.redl_tree.specs.declared.kinds.Space.TheVariants as space
use Rattle.redl_tree.specs.declared.kinds.Kind.{Kind}
use Rattle.redl_tree.specs.declared.kinds.Kind.TheVariants.{Mark, Row as RowMember, Cell as CellMember, Change}
use Rattle.redl_shown.specs.Shown.{shown}
use Rattle.redl_stamp.specs.Attribute.{attribute_value}
use Rattle.redl_bare.specs.Marks.{Stamp, Marks, stamp_in, no_marks, marks_inside, value_in}
use Rattle.redl_bare.specs.declared.object.Object.{Object}
use Rattle.redl_bare.specs.declared.object.Object.TheVariants.{Picture, FootnoteReference, EndnoteReference, Symbol, PlaceTab, SoftHyphen, FieldBegin, FieldSeparate, FieldEnd}
use Rattle.redl_bare.specs.declared.place.BarePlace.{BarePlace}
use Rattle.redl_bare.specs.declared.place.BarePlace.TheVariants.{Open, InText, InRun, InField, Quiet, Silent}
use Rattle.redl_bare.specs.declared.units.Thing.{Thing}
use Rattle.redl_bare.specs.declared.units.Thing.TheVariants.{Paragraph, Row, Cell}
use Rattle.redl_bare.specs.declared.units.Story.{Story}
use Rattle.redl_bare.specs.declared.units.Story.TheVariants.{Document, Header, Footer, Footnote, Endnote}

-- ---- units

-- what a paragraph holds: characters by their bytes, and objects, among which are the parts of a field
pub data Text : Type 0 where
  byte : ℕ → Text
  object : Object → Text

-- A unit: a text with its marks; the end of a paragraph or the begin of a row or a cell, with theirs; a member of a revision in
-- properties; or the begin of a story.
pub data BareUnit : Type 0 where
  text : Marks → Text → BareUnit
  thing : Marks → Thing → BareUnit
  member : Kind → Stamp → BareUnit
  story : Story → BareUnit

-- these texts with the same marks
abbrev pub in_marks : Marks → List Text → List BareUnit
in_marks marks texts = map (text marks) texts

-- ---- where nodes are

abbrev pub is_other : Space → Bool
is_other space.Other = true
is_other _ = false

-- the second form of content that is kept twice (ECMA-376 Part 3, 10.2), and a separator of notes
abbrev pub is_left_out : Tag → Bool
is_left_out tag =
    (is_other tag.space && bytes_eq tag.local (codes "Fallback"))
    || (is_any ("footnote" ∷ "endnote" ∷ []) tag && is_some (attribute_value tag.tail (codes "type")))

-- text, live or deleted, and the code of a field
abbrev pub is_text : Tag → Bool
is_text tag = is_any ("t" ∷ "delText" ∷ "instrText" ∷ "delInstrText" ∷ []) tag

abbrev pub open_inside : Tag → BarePlace
open_inside tag =
    if is_left_out tag then Silent
    else if is_quiet tag then Quiet
    else if is_text tag then InText
    else if is "r" tag then InRun
    else if is "fldSimple" tag then InField
    else Open

-- the place of what an element holds; the change of a run's properties is a mark of what is in the run, so these are silent
abbrev pub place_inside : BarePlace → Tag → BarePlace
place_inside Silent tag = Silent
place_inside Quiet tag = Quiet
place_inside InRun tag = if is "rPr" tag then Silent else open_inside tag
place_inside InText tag = open_inside tag
place_inside InField tag = open_inside tag
place_inside Open tag = open_inside tag

-- ---- what an element is

-- the characters and the object that an element shows
abbrev pub field_part : List ℕ → List Text
field_part kind =
    if bytes_eq kind (codes "begin") then object FieldBegin ∷ []
    else if bytes_eq kind (codes "separate") then object FieldSeparate ∷ []
    else if bytes_eq kind (codes "end") then object FieldEnd ∷ []
    else []

abbrev pub sign_texts : Tag → List Text
sign_texts tag =
    if is "sym" tag then object Symbol ∷ []
    else if is "ptab" tag then object PlaceTab ∷ []
    else if is "softHyphen" tag then object SoftHyphen ∷ []
    else if is "fldChar" tag then field_part (value_in tag.tail (codes "fldCharType"))
    else []

abbrev pub object_texts : Tag → List Text
object_texts tag =
    if is_any ("drawing" ∷ "pict" ∷ "object" ∷ []) tag then object Picture ∷ []
    else if is "footnoteReference" tag then object FootnoteReference ∷ []
    else if is "endnoteReference" tag then object EndnoteReference ∷ []
    else sign_texts tag

abbrev pub short_texts : Tag → List Text
short_texts tag =
    if is "tab" tag then byte 9 ∷ []
    else if is_any ("br" ∷ "cr" ∷ []) tag then byte 10 ∷ []
    else if is "noBreakHyphen" tag then byte 226 ∷ byte 128 ∷ byte 145 ∷ []
    else object_texts tag

-- a field with this code that is one element reads as one in several: writers turn the one form into the other
abbrev pub field_texts : List ℕ → List Text
field_texts code = object FieldBegin ∷ (map byte (shown code) ++ (object FieldSeparate ∷ []))

abbrev pub start_texts : Tag → List Text
start_texts tag = if is "fldSimple" tag then field_texts (value_in tag.tail (codes "instr")) else short_texts tag

-- what is shown after what is at a place: the end of a field
abbrev pub end_texts : BarePlace → List Text
end_texts InField = object FieldEnd ∷ []
end_texts _ = []

-- the lines that an element begins
abbrev pub start_things : Marks → Tag → List BareUnit
start_things marks tag =
    if is "tr" tag then thing marks Row ∷ []
    else if is "tc" tag then thing marks Cell ∷ []
    else if is_left_out tag then []
    else if is "footnote" tag then story Footnote ∷ []
    else if is "endnote" tag then story Endnote ∷ []
    else []

-- a member of a revision that has a line of its own: of the end of a paragraph, a row or a cell, or a change of properties
abbrev pub has_line : Kind → Bool
has_line (Mark trace) = true
has_line (RowMember trace) = true
has_line (CellMember trace) = true
has_line (Change prop) = true
has_line _ = false

abbrev pub member_units : Tag → List BareUnit
member_units tag =
    if has_line tag.kind then member tag.kind (stamp_in tag.tail) ∷ [] else []

abbrev pub open_units : Marks → Tag → List BareUnit
open_units marks tag = in_marks marks (start_texts tag) ++ start_things marks tag

-- the units of an element before those that it holds
abbrev pub start_units : BarePlace → Marks → Tag → List BareUnit
start_units Silent marks tag = []
start_units Quiet marks tag = member_units tag
start_units InRun marks tag = open_units marks tag
start_units InText marks tag = open_units marks tag
start_units InField marks tag = open_units marks tag
start_units Open marks tag = open_units marks tag

abbrev pub is_open_place : BarePlace → Bool
is_open_place Silent = false
is_open_place Quiet = false
is_open_place _ = true

-- and after them: a paragraph has its end, and so has a field
abbrev pub end_things : BarePlace → Marks → Tag → List BareUnit
end_things place marks tag =
    if is_open_place place && is "p" tag then thing marks Paragraph ∷ [] else []

abbrev pub end_units : BarePlace → Marks → Tag → List BareUnit
end_units place marks tag = in_marks marks (end_texts (place_inside place tag)) ++ end_things place marks tag

-- the texts of bytes
abbrev pub byte_texts : BarePlace → List ℕ → List Text
byte_texts InText b = map byte (shown b)
byte_texts _ b = []

-- ---- the units of nodes, stories and packages

abbrev pub units_in : BarePlace → Marks → Nodes → List BareUnit
units_in place marks no_nodes = []
units_in place marks (bytes b rest) = in_marks marks (byte_texts place b) ++ units_in place marks rest
units_in place marks (element tag kids rest) =
    (start_units place marks tag
    ++ (units_in (place_inside place tag) (marks_inside marks tag kids) kids ++ end_units place marks tag))
    ++ units_in place marks rest

-- the line with which a story begins; notes begin each for itself
abbrev pub root_units : Tag → List BareUnit
root_units tag =
    if is "document" tag then story Document ∷ []
    else if is "hdr" tag then story Header ∷ []
    else if is "ftr" tag then story Footer ∷ []
    else []

-- the units of a story or a note: the line with which it begins, and the units of its root
abbrev pub story_units : Element → List BareUnit
story_units root = root_units root.tag ++ units_in Open no_marks (element root.tag root.kids no_nodes)
