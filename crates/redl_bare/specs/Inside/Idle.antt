-- The texts of idle elements that a list keeps as text, as one list of numbers, by which the walk over them says which they are. No
-- revision, paragraph, row, cell or note is among them.
use Rattle.std.specs.Prelude.{ℕ, ◌+◌, ◌-◌, ◌==◌, List, [], ◌∷◌, ◌++◌, map, if◌then◌else◌}
use Rattle.redl_tree.specs.Model.Nodes.{Tag, Nodes, no_nodes, bytes, element}
use Rattle.redl_tree.specs.Roles.Names.{is, is_any, of_w}
use Rattle.redl_idle.specs.Shows.{ShowRule}
use Rattle.redl_bare.specs.Units.{Text, byte, object, start_texts, end_texts, byte_texts, place_inside, is_open_place}
use Rattle.redl_bare.specs.declared.object.Object.{Object}
use Rattle.redl_bare.specs.declared.object.Object.TheVariants.{Picture, FootnoteReference, EndnoteReference, Symbol, PlaceTab, SoftHyphen, FieldBegin, FieldSeparate, FieldEnd}
use Rattle.redl_bare.specs.declared.place.BarePlace.{BarePlace}
use Rattle.redl_bare.specs.declared.place.BarePlace.TheVariants.{Open, InText, InRun, InField, Quiet, Silent}

-- ---- numbers

abbrev pub object_number : Object → ℕ
object_number Picture = 0
object_number FootnoteReference = 1
object_number EndnoteReference = 2
object_number Symbol = 3
object_number PlaceTab = 4
object_number SoftHyphen = 5
object_number FieldBegin = 6
object_number FieldSeparate = 7
object_number FieldEnd = 8

abbrev pub text_number : Text → ℕ
text_number (object o) = object_number o
text_number (byte b) = b + 9

abbrev pub text_of : ℕ → Text
text_of n =
    if n == 0 then object Picture
    else if n == 1 then object FootnoteReference
    else if n == 2 then object EndnoteReference
    else if n == 3 then object Symbol
    else if n == 4 then object PlaceTab
    else if n == 5 then object SoftHyphen
    else if n == 6 then object FieldBegin
    else if n == 7 then object FieldSeparate
    else if n == 8 then object FieldEnd
    else byte (n - 9)

abbrev pub numbers : List Text → List ℕ
numbers texts = map text_number texts

-- the texts that numbers stand for
abbrev pub numbered : List ℕ → List Text
numbered ns = map text_of ns

-- ---- elements

-- an element of W with this local name and tail
abbrev pub tag_with : List ℕ → List ℕ → Tag
tag_with local tail = record (of_w local) { tail = tail }

-- the texts of an element at its start tag
abbrev pub texts_at : BarePlace → Tag → List Text
texts_at place tag = if is_open_place place then start_texts tag else []

-- the place of what an idle element with this local name holds
abbrev pub open_idle : List ℕ → BarePlace
open_idle local =
    if is "rPr" (of_w local) then Quiet
    else if is_any ("t" ∷ "instrText" ∷ []) (of_w local) then InText
    else if is "r" (of_w local) then InRun
    else if is "fldSimple" (of_w local) then InField
    else Open

abbrev pub idle_inside : BarePlace → List ℕ → BarePlace
idle_inside Silent local = Silent
idle_inside Quiet local = Quiet
idle_inside InRun local = if is "rPr" (of_w local) then Silent else open_idle local
idle_inside InText local = open_idle local
idle_inside InField local = open_idle local
idle_inside Open local = open_idle local

abbrev pub idle_rule : ShowRule BarePlace
idle_rule = record {
  bytes = λ place b. numbers (byte_texts place b);
  start = λ place local tail kids. numbers (texts_at place (tag_with local tail));
  inside = λ place local tail kids. idle_inside place local;
  end = λ place. numbers (end_texts place);
}

-- the texts of nodes
abbrev pub texts_in : BarePlace → Nodes → List Text
texts_in place no_nodes = []
texts_in place (bytes b rest) = byte_texts place b ++ texts_in place rest
texts_in place (element tag kids rest) =
    (texts_at place tag ++ (texts_in (place_inside place tag) kids ++ end_texts (place_inside place tag))) ++ texts_in place rest
