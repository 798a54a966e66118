-- Which texts of one mark are left out.
use Rattle.std.proofs.Common.{◌≡◌, ℕ, ◌+◌, List, [], ◌∷◌, ◌++◌, map, Bool, true, false, ◌||◌, not, refl, ap, ◌∙◌, eqb, arith, if◌then◌else◌}
use Rattle.std.proofs.lemmas.Bool.{ne_eqb}
use Rattle.std.proofs.lemmas.List.{map-append}
use Rattle.redl_bare.specs.Marks.{Marks}
use Rattle.redl_bare.specs.Units.{Text, byte, object, text, in_marks}
use Rattle.redl_bare.specs.Fields.{Fields, after_text, after_units, is_shown, kept, uncounted}
use Rattle.redl_bare.specs.Inside.Idle.{text_number, text_of, numbers, numbered}
use Rattle.redl_bare.specs.Inside.Texts.{after_texts, is_silent}
use Rattle.redl_bare.specs.declared.object.Object.{Object}
use Rattle.redl_bare.specs.declared.object.Object.TheVariants.{Picture, FootnoteReference, EndnoteReference, Symbol, PlaceTab, SoftHyphen, FieldBegin, FieldSeparate, FieldEnd}

pub fields_of_texts : (marks : Marks) (f : Fields) (texts : List Text) → after_units f (in_marks marks texts) ≡ after_texts f texts
fields_of_texts marks f [] = refl
fields_of_texts marks f (t ∷ ts) = fields_of_texts marks (after_text f t) ts

-- ---- characters

pub silent_after : (f : Fields) (bs : List ℕ) → is_silent (after_texts f (map byte bs)) ≡ is_silent f
silent_after f [] = refl
silent_after f (b ∷ bs) = silent_after (after_text f (byte b)) bs

not_true : (b : Bool) → not b ≡ true → b ≡ false
not_true true e = absurd cc
not_true false e = refl

not_false : (b : Bool) → not b ≡ false → b ≡ true
not_false true e = refl
not_false false e = absurd cc

pub characters_stay : (marks : Marks) (f : Fields) (bs : List ℕ) → is_silent f ≡ false → uncounted f (in_marks marks (map byte bs)) ≡ in_marks marks (map byte bs)
characters_stay marks f [] e = refl
characters_stay marks f (b ∷ bs) e =
    ap (λ z. (if z || z then text marks (byte b) ∷ [] else []) ++ uncounted (after_text f (byte b)) (in_marks marks (map byte bs))) (not_false (eqb f.silent 0) e)
    ∙ ap (λ us. text marks (byte b) ∷ us) (characters_stay marks (after_text f (byte b)) bs e)

pub characters_go : (marks : Marks) (f : Fields) (bs : List ℕ) → is_silent f ≡ true → uncounted f (in_marks marks (map byte bs)) ≡ []
characters_go marks f [] e = refl
characters_go marks f (b ∷ bs) e =
    ap (λ z. (if z || z then text marks (byte b) ∷ [] else []) ++ uncounted (after_text f (byte b)) (in_marks marks (map byte bs))) (not_true (eqb f.silent 0) e)
    ∙ characters_go marks (after_text f (byte b)) bs e

pub in_marks-append : (marks : Marks) (xs ys : List Text) → in_marks marks (xs ++ ys) ≡ in_marks marks xs ++ in_marks marks ys
in_marks-append marks [] ys = refl
in_marks-append marks (x ∷ xs) ys = ap (λ us. text marks x ∷ us) (in_marks-append marks xs ys)

-- bytes that begin with a piece
pub piece_units : (marks : Marks) (whole piece rest : List ℕ) → whole ≡ piece ++ rest
    → in_marks marks (map byte whole) ≡ in_marks marks (map byte piece) ++ in_marks marks (map byte rest)
piece_units marks whole piece rest e =
    ap (λ bs. in_marks marks (map byte bs)) e ∙ ap (in_marks marks) (map-append byte piece rest) ∙ in_marks-append marks (map byte piece) (map byte rest)

-- ---- objects

-- the begin of a field
pub field_units : (marks : Marks) (code : List ℕ) → in_marks marks (object FieldBegin ∷ (map byte code ++ (object FieldSeparate ∷ [])))
    ≡ in_marks marks (object FieldBegin ∷ []) ++ (in_marks marks (map byte code) ++ in_marks marks (object FieldSeparate ∷ []))
field_units marks code = ap (λ us. text marks (object FieldBegin) ∷ us) (in_marks-append marks (map byte code) (object FieldSeparate ∷ []))

pub object_kept : (marks : Marks) (f : Fields) (what : Object) → is_shown f (object what) ≡ true → kept f (text marks (object what)) ≡ text marks (object what) ∷ []
object_kept marks f what e = ap (λ z. if z then text marks (object what) ∷ [] else []) e

pub object_goes : (marks : Marks) (f : Fields) (what : Object) → is_shown f (object what) ≡ false → uncounted f (in_marks marks (object what ∷ [])) ≡ []
object_goes marks f what e = ap (λ z. (if z then text marks (object what) ∷ [] else []) ++ []) e

-- ---- numbers

text_back : (t : Text) → text_of (text_number t) ≡ t
text_back (object Picture) = refl
text_back (object FootnoteReference) = refl
text_back (object EndnoteReference) = refl
text_back (object Symbol) = refl
text_back (object PlaceTab) = refl
text_back (object SoftHyphen) = refl
text_back (object FieldBegin) = refl
text_back (object FieldSeparate) = refl
text_back (object FieldEnd) = refl
text_back (byte b) =
    rw (ne_eqb (b + 9) 0 (λ e. omega (arith, e)), ne_eqb (b + 9) 1 (λ e. omega (arith, e)), ne_eqb (b + 9) 2 (λ e. omega (arith, e)), ne_eqb (b + 9) 3 (λ e. omega (arith, e)), ne_eqb (b + 9) 4 (λ e. omega (arith, e)), ne_eqb (b + 9) 5 (λ e. omega (arith, e)), ne_eqb (b + 9) 6 (λ e. omega (arith, e)), ne_eqb (b + 9) 7 (λ e. omega (arith, e)), ne_eqb (b + 9) 8 (λ e. omega (arith, e)))
    (ap byte (omega arith))

pub numbers_back : (texts : List Text) → numbered (numbers texts) ≡ texts
numbers_back [] = refl
numbers_back (t ∷ ts) = ap (λ l. text_of (text_number t) ∷ l) (numbers_back ts) ∙ ap (λ u. u ∷ ts) (text_back t)
