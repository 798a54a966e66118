-- Names in lines can be told from what follows them.
use Rattle.std.proofs.Common.{◌≡◌, ℕ, List, ◌∷◌, ◌++◌, Bool, true, not, codes, refl, sym, ap, ◌∙◌, append_assoc, eqb, if◌then◌else◌}
use Rattle.redl_reading.specs.Lists.{front}
use Rattle.redl_tree.specs.declared.kinds.Trace.{Trace}
use Rattle.redl_tree.specs.declared.kinds.Trace.TheVariants.{Ins, Del, From, To}
use Rattle.redl_tree.specs.declared.kinds.Prop.TheVariants as props
use Rattle.redl_tree.specs.declared.kinds.Kind.{Kind}
use Rattle.redl_tree.specs.declared.kinds.Kind.TheVariants as kind
use Rattle.redl_bare.specs.Units.{has_line}
use Rattle.redl_bare.specs.BareText.{thing_name, object_name, story_name, trace_name, member_name}
use Rattle.redl_bare.specs.declared.object.Object.{Object}
use Rattle.redl_bare.specs.declared.object.Object.TheVariants.{Picture, FootnoteReference, EndnoteReference, Symbol, PlaceTab, SoftHyphen, FieldBegin, FieldSeparate, FieldEnd}
use Rattle.redl_bare.specs.declared.units.Thing.{Thing}
use Rattle.redl_bare.specs.declared.units.Thing.TheVariants.{Paragraph, Row, Cell}
use Rattle.redl_bare.specs.declared.units.Story.{Story}
use Rattle.redl_bare.specs.declared.units.Story.TheVariants.{Document, Header, Footer, Footnote, Endnote}
use Rattle.redl_bare_sound.proofs.Splits.{head_of, tail_of, cancel}

-- the bytes of a name, which has none of this kind
abbrev is_not : ℕ → ℕ → Bool
is_not end b = not (eqb b end)

-- what has a name that no other has, and that has no such byte, can be told from what follows
name_split : {A : Type 0} (end : ℕ) (name_of : A → List ℕ) (back : List ℕ → A) (a b : A) → back (name_of a) ≡ a → back (name_of b) ≡ b
    → ((X : List ℕ) → front (is_not end) (name_of a ++ (end ∷ X)) ≡ name_of a) → ((X : List ℕ) → front (is_not end) (name_of b ++ (end ∷ X)) ≡ name_of b)
    → (X Y : List ℕ) → name_of a ++ (end ∷ X) ≡ name_of b ++ (end ∷ Y) → (a ≡ b) × (X ≡ Y)
name_split end name_of back a b e f p q X Y h =
    let same : a ≡ b = sym e ∙ ap back (sym (p X) ∙ ap (front (is_not end)) h ∙ q Y) ∙ f in
    (same, ap tail_of (cancel (name_of b) (end ∷ X) (end ∷ Y) (ap (λ c. name_of c ++ (end ∷ X)) (sym same) ∙ h)))

-- ---- what has a line of its own

pub data Own : Type 0 where
  own_thing : Thing → Own
  own_object : Object → Own

abbrev pub own_name : Own → List ℕ
own_name (own_thing t) = thing_name t
own_name (own_object o) = object_name o

abbrev fifth : List ℕ → ℕ
fifth name = head_of (tail_of (tail_of (tail_of (tail_of name))))

abbrev sixth : List ℕ → ℕ
sixth name = fifth (tail_of name)

-- by the second letter those whose names have the same first one, and of the parts of a field the letter after the blank
abbrev own_p : ℕ → Own
own_p b = if eqb b 97 then own_thing Paragraph else if eqb b 105 then own_object Picture else own_object PlaceTab

abbrev own_s : ℕ → Own
own_s b = if eqb b 121 then own_object Symbol else own_object SoftHyphen

abbrev own_field : ℕ → Own
own_field b = if eqb b 98 then own_object FieldBegin else if eqb b 115 then own_object FieldSeparate else own_object FieldEnd

abbrev own_so : List ℕ → Own
own_so name =
    if eqb (head_of name) 112 then own_p (head_of (tail_of name))
    else if eqb (head_of name) 114 then own_thing Row
    else if eqb (head_of name) 99 then own_thing Cell
    else if eqb (head_of name) 101 then own_object EndnoteReference
    else if eqb (head_of name) 115 then own_s (head_of (tail_of name))
    else if eqb (head_of (tail_of name)) 111 then own_object FootnoteReference
    else own_field (sixth (tail_of name))

own_back : (o : Own) → own_so (own_name o) ≡ o
own_back (own_thing Paragraph) = refl
own_back (own_thing Row) = refl
own_back (own_thing Cell) = refl
own_back (own_object Picture) = refl
own_back (own_object FootnoteReference) = refl
own_back (own_object EndnoteReference) = refl
own_back (own_object Symbol) = refl
own_back (own_object PlaceTab) = refl
own_back (own_object SoftHyphen) = refl
own_back (own_object FieldBegin) = refl
own_back (own_object FieldSeparate) = refl
own_back (own_object FieldEnd) = refl

own_front : (o : Own) (X : List ℕ) → front (is_not 10) (own_name o ++ (10 ∷ X)) ≡ own_name o
own_front (own_thing Paragraph) X = refl
own_front (own_thing Row) X = refl
own_front (own_thing Cell) X = refl
own_front (own_object Picture) X = refl
own_front (own_object FootnoteReference) X = refl
own_front (own_object EndnoteReference) X = refl
own_front (own_object Symbol) X = refl
own_front (own_object PlaceTab) X = refl
own_front (own_object SoftHyphen) X = refl
own_front (own_object FieldBegin) X = refl
own_front (own_object FieldSeparate) X = refl
own_front (own_object FieldEnd) X = refl

pub own_split : (o p : Own) (X Y : List ℕ) → own_name o ++ (10 ∷ X) ≡ own_name p ++ (10 ∷ Y) → (o ≡ p) × (X ≡ Y)
own_split o p X Y h = name_split 10 own_name own_so o p (own_back o) (own_back p) (own_front o) (own_front p) X Y h

-- ---- stories

abbrev story_so : List ℕ → Story
story_so name =
    if eqb (head_of name) 100 then Document
    else if eqb (head_of name) 104 then Header
    else if eqb (head_of name) 101 then Endnote
    else if eqb (fifth name) 101 then Footer
    else Footnote

story_back : (s : Story) → story_so (story_name s) ≡ s
story_back Document = refl
story_back Header = refl
story_back Footer = refl
story_back Footnote = refl
story_back Endnote = refl

story_front : (s : Story) (X : List ℕ) → front (is_not 10) (story_name s ++ (10 ∷ X)) ≡ story_name s
story_front Document X = refl
story_front Header X = refl
story_front Footer X = refl
story_front Footnote X = refl
story_front Endnote X = refl

pub story_split : (s z : Story) (X Y : List ℕ) → story_name s ++ (10 ∷ X) ≡ story_name z ++ (10 ∷ Y) → (s ≡ z) × (X ≡ Y)
story_split s z X Y h = name_split 10 story_name story_so s z (story_back s) (story_back z) (story_front s) (story_front z) X Y h

-- ---- members

abbrev trace_so : ℕ → Trace
trace_so b = if eqb b 105 then Ins else if eqb b 100 then Del else if eqb b 102 then From else To

abbrev kind_so : List ℕ → Kind
kind_so name =
    if eqb (head_of name) 109 then kind.Mark (trace_so (sixth name))
    else if eqb (head_of name) 99 then (if eqb (sixth name) 112 then kind.Change props.Cell else kind.Cell (trace_so (sixth name)))
    else if eqb (head_of name) 112 then kind.Change props.Para
    else if eqb (head_of name) 115 then kind.Change props.Sect
    else if eqb (head_of name) 116 then kind.Change props.Table
    else if eqb (head_of name) 101 then kind.Change props.Except
    else if eqb (head_of (tail_of name)) 117 then kind.Change props.Run
    else if eqb (fifth name) 112 then kind.Change props.Row
    else kind.Row (trace_so (fifth name))

kind_back : (k : Kind) → has_line k ≡ true → kind_so (member_name k) ≡ k
kind_back (kind.Mark Ins) e = refl
kind_back (kind.Mark Del) e = refl
kind_back (kind.Mark From) e = refl
kind_back (kind.Mark To) e = refl
kind_back (kind.Row Ins) e = refl
kind_back (kind.Row Del) e = refl
kind_back (kind.Row From) e = refl
kind_back (kind.Row To) e = refl
kind_back (kind.Cell Ins) e = refl
kind_back (kind.Cell Del) e = refl
kind_back (kind.Cell From) e = refl
kind_back (kind.Cell To) e = refl
kind_back (kind.Change props.Run) e = refl
kind_back (kind.Change props.Para) e = refl
kind_back (kind.Change props.Sect) e = refl
kind_back (kind.Change props.Table) e = refl
kind_back (kind.Change props.Except) e = refl
kind_back (kind.Change props.Row) e = refl
kind_back (kind.Change props.Cell) e = refl
kind_back kind.Plain e = absurd cc
kind_back (kind.Content t) e = absurd cc
kind_back kind.Marker e = absurd cc

trace_front : (before : List ℕ) → ((Y : List ℕ) → front (is_not 9) (before ++ Y) ≡ before ++ front (is_not 9) Y) → (t : Trace) (X : List ℕ)
    → front (is_not 9) ((before ++ trace_name t) ++ (9 ∷ X)) ≡ before ++ trace_name t
trace_front before more Ins X = ap (front (is_not 9)) (append_assoc before (codes "ins") (9 ∷ X)) ∙ more (codes "ins" ++ (9 ∷ X))
trace_front before more Del X = ap (front (is_not 9)) (append_assoc before (codes "del") (9 ∷ X)) ∙ more (codes "del" ++ (9 ∷ X))
trace_front before more From X = ap (front (is_not 9)) (append_assoc before (codes "from") (9 ∷ X)) ∙ more (codes "from" ++ (9 ∷ X))
trace_front before more To X = ap (front (is_not 9)) (append_assoc before (codes "to") (9 ∷ X)) ∙ more (codes "to" ++ (9 ∷ X))

kind_front : (k : Kind) (X : List ℕ) → front (is_not 9) (member_name k ++ (9 ∷ X)) ≡ member_name k
kind_front (kind.Mark t) X = trace_front (codes "mark-") (λ Y. refl) t X
kind_front (kind.Row t) X = trace_front (codes "row-") (λ Y. refl) t X
kind_front (kind.Cell t) X = trace_front (codes "cell-") (λ Y. refl) t X
kind_front (kind.Change props.Run) X = refl
kind_front (kind.Change props.Para) X = refl
kind_front (kind.Change props.Sect) X = refl
kind_front (kind.Change props.Table) X = refl
kind_front (kind.Change props.Except) X = refl
kind_front (kind.Change props.Row) X = refl
kind_front (kind.Change props.Cell) X = refl
kind_front kind.Plain X = refl
kind_front (kind.Content t) X = refl
kind_front kind.Marker X = refl

pub kind_split : (k l : Kind) → has_line k ≡ true → has_line l ≡ true → (X Y : List ℕ) → member_name k ++ (9 ∷ X) ≡ member_name l ++ (9 ∷ Y) → (k ≡ l) × (X ≡ Y)
kind_split k l e f X Y h = name_split 9 member_name kind_so k l (kind_back k e) (kind_back l f) (kind_front k) (kind_front l) X Y h
