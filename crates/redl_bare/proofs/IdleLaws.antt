-- Idle elements have texts alone, and show what their names say.
use Rattle.std.proofs.Common.{◌≡◌, ◌∙◌, refl, sym, ap, ℕ, List, [], ◌∷◌, ◌++◌, Bool, true, false, ◌&&◌, ◌||◌, codes, bytes_eq, Some, None, append-nil, if◌then◌else◌}
use Rattle.std.proofs.Math.Bool.{and-false}
use Rattle.std.specs.Prelude.{is_some}
use Rattle.std.proofs.lemmas.List.{map-append}
use Rattle.redl_tree.specs.Model.Nodes.{Tag, Nodes, no_nodes, bytes, element, ◌⊕◌}
use Rattle.redl_tree.specs.Model.IdleTexts.{idle_nodes}
use Rattle.redl_tree.specs.Roles.Names.{is, is_any, is_w, of_w}
use Rattle.redl_tree.specs.Roles.Idle.{is_idle_in}
use Rattle.redl_tree.specs.Roles.Places.{is_quiet}
use Rattle.redl_tree.specs.declared.kinds.Space.{Space}
use Rattle.redl_tree.specs.declared.kinds.Space.TheVariants.{W, M, Pkg}
use Rattle.redl_tree.specs.declared.kinds.Space.TheVariants as space
use Rattle.redl_tree.proofs.Idle.Tags.{Idle, idle_parts, has-not}
use Rattle.redl_tree.proofs.Idle.Items.{nodes_are_idle}
use Rattle.redl_stamp.specs.Attribute.{attribute_value}
use Rattle.redl_reading.specs.Steps.{or_else}
use Rattle.redl_idle.specs.Shows.{shows}
use Rattle.redl_idle.proofs.RoleLaws.{name_same, quiet_same}
use Rattle.redl_bare.specs.Marks.{Marks, stamp_in, value_in, is_run_change, change_in, run_change, format_mark, own_mark, with_own, marks_inside}
use Rattle.redl_bare.specs.Units.{Text, thing, member, story, BareUnit, has_line, is_other, is_left_out, is_text, open_inside, place_inside, field_texts, short_texts, start_texts, end_texts, start_things, open_units, start_units, end_things, end_units, is_open_place, in_marks, byte_texts, units_in}
use Rattle.redl_bare.specs.Units.{byte, object, field_part}
use Rattle.redl_bare.specs.Inside.Idle.{text_number, numbers, numbered, tag_with, texts_at, open_idle, idle_inside, idle_rule, texts_in}
use Rattle.redl_bare.proofs.FieldLaws.{in_marks-append, numbers_back}
use Rattle.redl_bare.specs.declared.object.Object.TheVariants.{Picture, FootnoteReference, EndnoteReference, Symbol, PlaceTab, SoftHyphen}
use Rattle.redl_bare.specs.declared.units.Thing.TheVariants.{Paragraph, Row, Cell}
use Rattle.redl_bare.specs.declared.units.Story.TheVariants.{Footnote, Endnote}
use Rattle.redl_bare.specs.declared.place.BarePlace.{BarePlace}
use Rattle.redl_bare.specs.declared.place.BarePlace.TheVariants.{Open, InText, InRun, InField, Quiet, Silent}

-- ---- one element

-- an element of W has the texts of its local name and tail
abbrev short_of : Bool → List ℕ → List ℕ → List Text
short_of w local tail =
    if w && bytes_eq local (codes "tab") then byte 9 ∷ []
    else if (w && bytes_eq local (codes "br")) || ((w && bytes_eq local (codes "cr")) || false) then byte 10 ∷ []
    else if w && bytes_eq local (codes "noBreakHyphen") then byte 226 ∷ byte 128 ∷ byte 145 ∷ []
    else if (w && bytes_eq local (codes "drawing")) || ((w && bytes_eq local (codes "pict")) || ((w && bytes_eq local (codes "object")) || false)) then object Picture ∷ []
    else if w && bytes_eq local (codes "footnoteReference") then object FootnoteReference ∷ []
    else if w && bytes_eq local (codes "endnoteReference") then object EndnoteReference ∷ []
    else if w && bytes_eq local (codes "sym") then object Symbol ∷ []
    else if w && bytes_eq local (codes "ptab") then object PlaceTab ∷ []
    else if w && bytes_eq local (codes "softHyphen") then object SoftHyphen ∷ []
    else if w && bytes_eq local (codes "fldChar") then field_part (value_in tail (codes "fldCharType"))
    else []

abbrev texts_of : Bool → List ℕ → List ℕ → List Text
texts_of w local tail =
    if w && bytes_eq local (codes "fldSimple") then field_texts (value_in tail (codes "instr")) else short_of w local tail

pub texts_w : (tag : Tag) → is_w tag.space ≡ true → start_texts tag ≡ start_texts (tag_with tag.local tag.tail)
texts_w tag e = ap (λ w. texts_of w tag.local tag.tail) e

pub short_w : (tag : Tag) → is_w tag.space ≡ true → short_texts tag ≡ short_texts (tag_with tag.local tag.tail)
short_w tag e = ap (λ w. short_of w tag.local tag.tail) e

pub short_not_w : (tag : Tag) → is_w tag.space ≡ false → short_texts tag ≡ []
short_not_w tag e = ap (λ w. short_of w tag.local tag.tail) e

same_both : {X : Type 0} (b : Bool) (x : X) → (if b then x else x) ≡ x
same_both true x = refl
same_both false x = refl

things_idle : (marks : Marks) (in_run : Bool) (tag : Tag) → Idle in_run tag → start_things marks tag ≡ []
things_idle marks in_run tag i =
    ap (λ b. if b then row else if is "tc" tag then cell else notes (is "footnote" tag) (is "endnote" tag)) (has-not "tr" in_run tag i refl)
    ∙ ap (λ b. if b then cell else notes (is "footnote" tag) (is "endnote" tag)) (has-not "tc" in_run tag i refl)
    ∙ ap (λ b. notes b (is "endnote" tag)) (has-not "footnote" in_run tag i refl)
    ∙ ap (λ b. notes false b) (has-not "endnote" in_run tag i refl)
    ∙ same_both (is_left_out tag) []
  where
    row : List BareUnit
    row = thing marks Row ∷ []

    cell : List BareUnit
    cell = thing marks Cell ∷ []

    notes : Bool → Bool → List BareUnit
    notes f e =
        if is_left_out tag then []
        else if f then story Footnote ∷ []
        else if e then story Endnote ∷ []
        else []

open_idle_units : (marks : Marks) (in_run : Bool) (tag : Tag) → Idle in_run tag → open_units marks tag ≡ in_marks marks (start_texts tag)
open_idle_units marks in_run tag i =
    ap (λ (us : List BareUnit). in_marks marks (start_texts tag) ++ us) (things_idle marks in_run tag i) ∙ append-nil (in_marks marks (start_texts tag))

start_idle : (place : BarePlace) (marks : Marks) (in_run : Bool) (tag : Tag) → Idle in_run tag → start_units place marks tag ≡ in_marks marks (texts_at place tag)
start_idle Silent marks in_run tag i = refl
start_idle Quiet marks in_run tag i =
    ap (λ kind. if has_line kind then member kind (stamp_in tag.tail) ∷ [] else []) i.kind
start_idle InRun marks in_run tag i = open_idle_units marks in_run tag i
start_idle InText marks in_run tag i = open_idle_units marks in_run tag i
start_idle InField marks in_run tag i = open_idle_units marks in_run tag i
start_idle Open marks in_run tag i = open_idle_units marks in_run tag i

no_end_things : (place : BarePlace) (marks : Marks) (in_run : Bool) (tag : Tag) → Idle in_run tag → end_things place marks tag ≡ []
no_end_things place marks in_run tag i =
    ap (λ p. if is_open_place place && p then thing marks Paragraph ∷ [] else []) (has-not "p" in_run tag i refl)
    ∙ ap (λ b. if b then thing marks Paragraph ∷ [] else []) (and-false (is_open_place place))

end_idle : (place : BarePlace) (marks : Marks) (in_run : Bool) (tag : Tag) → Idle in_run tag → end_units place marks tag ≡ in_marks marks (end_texts (place_inside place tag))
end_idle place marks in_run tag i =
    ap (λ (us : List BareUnit). in_marks marks (end_texts (place_inside place tag)) ++ us) (no_end_things place marks in_run tag i)
    ∙ append-nil (in_marks marks (end_texts (place_inside place tag)))

not_other : (s : Space) → is_w s ≡ true → is_other s ≡ false
not_other W e = refl
not_other M e = refl
not_other Pkg e = refl
not_other space.Other e = absurd cc

not_left_out : (in_run : Bool) (tag : Tag) → Idle in_run tag → is_left_out tag ≡ false
not_left_out in_run tag i =
    let typed = is_some (attribute_value tag.tail (codes "type")) in
    ap (λ o. (o && bytes_eq tag.local (codes "Fallback")) || ((is "footnote" tag || (is "endnote" tag || false)) && typed)) (not_other tag.space i.space)
    ∙ ap (λ f. (f || (is "endnote" tag || false)) && typed) (has-not "footnote" in_run tag i refl)
    ∙ ap (λ e. (e || false) && typed) (has-not "endnote" in_run tag i refl)

text_same : (in_run : Bool) (tag : Tag) → Idle in_run tag → is_text tag ≡ is_any ("t" ∷ "instrText" ∷ []) (of_w tag.local)
text_same in_run tag i =
    ap (λ d. is "t" tag || (d || (is "instrText" tag || (is "delInstrText" tag || false)))) (has-not "delText" in_run tag i refl)
    ∙ ap (λ d. is "t" tag || (is "instrText" tag || (d || false))) (has-not "delInstrText" in_run tag i refl)
    ∙ ap (λ w. (w && bytes_eq tag.local (codes "t")) || ((w && bytes_eq tag.local (codes "instrText")) || false)) i.space

abbrev in_line : Bool → Bool → BarePlace
in_line r field = if r then InRun else if field then InField else Open

open_same : (in_run : Bool) (tag : Tag) → Idle in_run tag → open_inside tag ≡ open_idle tag.local
open_same in_run tag i =
    ap (λ l. if l then Silent else if is_quiet tag then Quiet else if is_text tag then InText else in_line (is "r" tag) (is "fldSimple" tag)) (not_left_out in_run tag i)
    ∙ ap (λ q. if q then Quiet else if is_text tag then InText else in_line (is "r" tag) (is "fldSimple" tag)) (quiet_same in_run tag i)
    ∙ ap (λ t. if is "rPr" (of_w tag.local) then Quiet else if t then InText else in_line (is "r" tag) (is "fldSimple" tag)) (text_same in_run tag i)
    ∙ ap (λ r. if is "rPr" (of_w tag.local) then Quiet else if is_any ("t" ∷ "instrText" ∷ []) (of_w tag.local) then InText else in_line r (is "fldSimple" tag))
    (name_same in_run tag i (codes "r"))
    ∙ ap (λ f. if is "rPr" (of_w tag.local) then Quiet else if is_any ("t" ∷ "instrText" ∷ []) (of_w tag.local) then InText else in_line (is "r" (of_w tag.local)) f)
    (name_same in_run tag i (codes "fldSimple"))

inside_same : (place : BarePlace) (in_run : Bool) (tag : Tag) → Idle in_run tag → place_inside place tag ≡ idle_inside place tag.local
inside_same Silent in_run tag i = refl
inside_same Quiet in_run tag i = refl
inside_same InText in_run tag i = open_same in_run tag i
inside_same InField in_run tag i = open_same in_run tag i
inside_same Open in_run tag i = open_same in_run tag i
inside_same InRun in_run tag i =
    ap (λ b. if b then Silent else open_inside tag) (name_same in_run tag i (codes "rPr"))
    ∙ ap (λ p. if is "rPr" (of_w tag.local) then Silent else p) (open_same in_run tag i)

-- ---- no run of theirs was changed

change_none : (in_run : Bool) (x : Nodes) → is_idle_in in_run x ≡ true → change_in x ≡ None
change_none in_run no_nodes h = refl
change_none in_run (bytes b rest) h = change_none in_run rest h
change_none in_run (element tag kids rest) h =
    let p = idle_parts in_run tag kids rest h in
    ap (λ kind. if is_run_change kind then Some (stamp_in tag.tail) else change_in rest) p.own.kind ∙ change_none in_run rest p.later

run_none : (in_run : Bool) (x : Nodes) → is_idle_in in_run x ≡ true → run_change x ≡ None
run_none in_run no_nodes h = refl
run_none in_run (bytes b rest) h = run_none in_run rest h
run_none in_run (element tag kids rest) h =
    let p = idle_parts in_run tag kids rest h in
    ap (λ c. or_else (if is "rPr" tag then c else None) (run_change rest)) (change_none (is "r" tag) kids p.below)
    ∙ ap (λ c. or_else c (run_change rest)) (same_both (is "rPr" tag) None) ∙ run_none in_run rest p.later

marks_idle : (marks : Marks) (in_run : Bool) (tag : Tag) (kids : Nodes) → Idle in_run tag → is_idle_in (is "r" tag) kids ≡ true → marks_inside marks tag kids ≡ marks
marks_idle marks in_run tag kids i h =
    ap (λ kind. with_own marks (own_mark kind tag kids)) i.kind
    ∙ ap (λ c. with_own marks (format_mark (if is "r" tag then c else None))) (run_none (is "r" tag) kids h)
    ∙ ap (λ c. with_own marks (format_mark c)) (same_both (is "r" tag) None)

-- ---- nodes

units_texts : (place : BarePlace) (marks : Marks) (in_run : Bool) (x : Nodes) → is_idle_in in_run x ≡ true → units_in place marks x ≡ in_marks marks (texts_in place x)
units_texts place marks in_run no_nodes h = refl
units_texts place marks in_run (bytes b rest) h =
    ap (λ us. in_marks marks (byte_texts place b) ++ us) (units_texts place marks in_run rest h)
    ∙ sym (in_marks-append marks (byte_texts place b) (texts_in place rest))
units_texts place marks in_run (element tag kids rest) h =
    let p = idle_parts in_run tag kids rest h in
    let inner = place_inside place tag in
    let here = texts_at place tag in
    let below = texts_in inner kids ++ end_texts inner in
    ap (λ (us : List BareUnit). (us ++ (units_in inner (marks_inside marks tag kids) kids ++ end_units place marks tag)) ++ units_in place marks rest) (start_idle place marks in_run tag p.own)
    ∙ ap (λ (us : List BareUnit). (in_marks marks here ++ (units_in inner (marks_inside marks tag kids) kids ++ us)) ++ units_in place marks rest) (end_idle place marks in_run tag p.own)
    ∙ ap (λ (us : List BareUnit). (in_marks marks here ++ (us ++ in_marks marks (end_texts inner))) ++ units_in place marks rest)
    (ap (λ m. units_in inner m kids) (marks_idle marks in_run tag kids p.own p.below) ∙ units_texts inner marks (is "r" tag) kids p.below)
    ∙ ap (λ (us : List BareUnit). (in_marks marks here ++ us) ++ units_in place marks rest) (sym (in_marks-append marks (texts_in inner kids) (end_texts inner)))
    ∙ ap (λ (us : List BareUnit). us ++ units_in place marks rest) (sym (in_marks-append marks here below))
    ∙ ap (λ (us : List BareUnit). in_marks marks (here ++ below) ++ us) (units_texts place marks in_run rest p.later)
    ∙ sym (in_marks-append marks (here ++ below) (texts_in place rest))

numbers-append : (xs ys : List Text) → numbers (xs ++ ys) ≡ numbers xs ++ numbers ys
numbers-append xs ys = map-append text_number xs ys

texts_at-same : (place : BarePlace) (tag : Tag) → is_w tag.space ≡ true → texts_at place tag ≡ texts_at place (tag_with tag.local tag.tail)
texts_at-same place tag e = ap (λ (ts : List Text). if is_open_place place then ts else []) (texts_w tag e)

texts_shown : (place : BarePlace) (in_run : Bool) (x : Nodes) → is_idle_in in_run x ≡ true → numbers (texts_in place x) ≡ shows idle_rule place x
texts_shown place in_run no_nodes h = refl
texts_shown place in_run (bytes b rest) h =
    numbers-append (byte_texts place b) (texts_in place rest) ∙ ap (λ (t : List ℕ). numbers (byte_texts place b) ++ t) (texts_shown place in_run rest h)
texts_shown place in_run (element tag kids rest) h =
    let p = idle_parts in_run tag kids rest h in
    let inner = place_inside place tag in
    let own = numbers (texts_at place (tag_with tag.local tag.tail)) in
    let below = texts_in inner kids ++ end_texts inner in
    numbers-append (texts_at place tag ++ below) (texts_in place rest)
    ∙ ap (λ (t : List ℕ). t ++ numbers (texts_in place rest)) (numbers-append (texts_at place tag) below)
    ∙ ap (λ (ts : List Text). (numbers ts ++ numbers below) ++ numbers (texts_in place rest)) (texts_at-same place tag p.own.space)
    ∙ ap (λ (t : List ℕ). (own ++ t) ++ numbers (texts_in place rest))
    (numbers-append (texts_in inner kids) (end_texts inner) ∙ ap (λ (t : List ℕ). t ++ numbers (end_texts inner)) (texts_shown inner (is "r" tag) kids p.below)
    ∙ ap (λ i. shows idle_rule i kids ++ numbers (end_texts i)) (inside_same place in_run tag p.own))
    ∙ ap (λ (t : List ℕ). (own ++ (shows idle_rule (idle_inside place tag.local) kids ++ numbers (end_texts (idle_inside place tag.local)))) ++ t) (texts_shown place in_run rest p.later)

-- what a list keeps as text
units_of_idle : (place : BarePlace) (marks : Marks) (t : List ℕ) → units_in place marks (idle_nodes t) ≡ in_marks marks (texts_in place (idle_nodes t))
units_of_idle place marks t = units_texts place marks false (idle_nodes t) (nodes_are_idle t)

numbers_of_idle : (place : BarePlace) (t : List ℕ) → numbers (texts_in place (idle_nodes t)) ≡ shows idle_rule place (idle_nodes t)
numbers_of_idle place t = texts_shown place false (idle_nodes t) (nodes_are_idle t)

-- the units of what a list keeps as text, as the walk over it says them
pub units_shown : (place : BarePlace) (marks : Marks) (t : List ℕ) → units_in place marks (idle_nodes t) ≡ in_marks marks (numbered (shows idle_rule place (idle_nodes t)))
units_shown place marks t =
    units_of_idle place marks t ∙ ap (in_marks marks) (sym (numbers_back (texts_in place (idle_nodes t)))) ∙ ap (λ ns. in_marks marks (numbered ns)) (numbers_of_idle place t)

-- ---- no change of a run is among them

change_past : (in_run : Bool) (x y : Nodes) → is_idle_in in_run x ≡ true → change_in (x ⊕ y) ≡ change_in y
change_past in_run no_nodes y h = refl
change_past in_run (bytes b rest) y h = change_past in_run rest y h
change_past in_run (element tag kids rest) y h =
    let p = idle_parts in_run tag kids rest h in
    ap (λ kind. if is_run_change kind then Some (stamp_in tag.tail) else change_in (rest ⊕ y)) p.own.kind ∙ change_past in_run rest y p.later

run_past : (in_run : Bool) (x y : Nodes) → is_idle_in in_run x ≡ true → run_change (x ⊕ y) ≡ run_change y
run_past in_run no_nodes y h = refl
run_past in_run (bytes b rest) y h = run_past in_run rest y h
run_past in_run (element tag kids rest) y h =
    let p = idle_parts in_run tag kids rest h in
    ap (λ c. or_else (if is "rPr" tag then c else None) (run_change (rest ⊕ y))) (change_none (is "r" tag) kids p.below)
    ∙ ap (λ c. or_else c (run_change (rest ⊕ y))) (same_both (is "rPr" tag) None) ∙ run_past in_run rest y p.later

pub change_in_idle : (t : List ℕ) (rest : Nodes) → change_in (idle_nodes t ⊕ rest) ≡ change_in rest
change_in_idle t rest = change_past false (idle_nodes t) rest (nodes_are_idle t)

pub run_change_idle : (t : List ℕ) (rest : Nodes) → run_change (idle_nodes t ⊕ rest) ≡ run_change rest
run_change_idle t rest = run_past false (idle_nodes t) rest (nodes_are_idle t)
