-- Units that are put one after another.
use Rattle.std.proofs.Common.{◌≡◌, ℕ, List, [], ◌∷◌, ◌++◌, Option, Result, Ok, Err, OnOk, refl, sym, ap, subst, ◌∙◌, append_assoc}
use Rattle.std.specs.Prelude.{IsErrAnd}
use Rattle.std.proofs.lemmas.Result.{on_ok_weaker}
use Rattle.std.specs.Borrow.{GName}
use Rattle.redl_io.specs.Sink.{Puts}
use Rattle.redl_io.specs.declared.sink.Failed.{Failed}
use Rattle.redl_io.proofs.Puts.{puts_then, puts_fails, puts_nothing}
use Rattle.redl_bare.specs.Marks.{Marks}
use Rattle.redl_bare.specs.Units.{BareUnit, text, in_marks}
use Rattle.redl_bare.specs.Fields.{Fields, kept, after_unit, after_units, uncounted}
use Rattle.redl_bare.specs.BareText.{unit_text, line_after, lines, line_after_all}
use Rattle.redl_bare.specs.Inside.Idle.{text_of, numbered}
use Rattle.redl_bare.specs.Inside.Puts.{left_lines, left_line, IsAfter, PutsUnits}
use Rattle.redl_bare.specs.Inside.Views.{fields_view, line_view, marks_view}
use Rattle.redl_bare.specs.declared.writer.Writer.{Writer}

-- ---- lists of units

lines-append : (line : Option Marks) (xs ys : List BareUnit) → lines line (xs ++ ys) ≡ lines line xs ++ lines (line_after_all line xs) ys
lines-append line [] ys = refl
lines-append line (x ∷ xs) ys =
    ap (λ t. unit_text line x ++ t) (lines-append (line_after line x) xs ys)
    ∙ sym (append_assoc (unit_text line x) (lines (line_after line x) xs) (lines (line_after_all (line_after line x) xs) ys))

line-append : (line : Option Marks) (xs ys : List BareUnit) → line_after_all line (xs ++ ys) ≡ line_after_all (line_after_all line xs) ys
line-append line [] ys = refl
line-append line (x ∷ xs) ys = line-append (line_after line x) xs ys

uncounted-append : (f : Fields) (xs ys : List BareUnit) → uncounted f (xs ++ ys) ≡ uncounted f xs ++ uncounted (after_units f xs) ys
uncounted-append f [] ys = refl
uncounted-append f (x ∷ xs) ys =
    ap (λ us. kept f x ++ us) (uncounted-append (after_unit f x) xs ys)
    ∙ sym (append_assoc (kept f x) (uncounted (after_unit f x) xs) (uncounted (after_units (after_unit f x) xs) ys))

fields-append : (f : Fields) (xs ys : List BareUnit) → after_units f (xs ++ ys) ≡ after_units (after_units f xs) ys
fields-append f [] ys = refl
fields-append f (x ∷ xs) ys = fields-append (after_unit f x) xs ys

pub left-append : (line : Option Marks) (f : Fields) (xs ys : List BareUnit)
    → left_lines line f (xs ++ ys) ≡ left_lines line f xs ++ left_lines (left_line line f xs) (after_units f xs) ys
left-append line f xs ys =
    ap (lines line) (uncounted-append f xs ys) ∙ lines-append line (uncounted f xs) (uncounted (after_units f xs) ys)

left_line-append : (line : Option Marks) (f : Fields) (xs ys : List BareUnit)
    → left_line line f (xs ++ ys) ≡ left_line (left_line line f xs) (after_units f xs) ys
left_line-append line f xs ys =
    ap (line_after_all line) (uncounted-append f xs ys) ∙ line-append line (uncounted f xs) (uncounted (after_units f xs) ys)

-- ---- writers

-- nothing holds of what stopped
pub no_ok : {T E : Type 0} (P : Type 0) (r : Result T E) (e : E) → IsErrAnd r (λ f. f ≡ e) → OnOk r P
no_ok P (Ok x) e h = absurd h
no_ok P (Err f) e h = tt

-- what is written of units that begin so
pub left_split : {K : Type 0} (old mid : Writer K) (units xs ys : List BareUnit) → units ≡ xs ++ ys → IsAfter old mid xs
    → left_lines (line_view old.line) (fields_view old.fields) units
    ≡ left_lines (line_view old.line) (fields_view old.fields) xs ++ left_lines (line_view mid.line) (fields_view mid.fields) ys
left_split old mid units xs ys e a =
    let line = line_view old.line in
    let f = fields_view old.fields in
    ap (left_lines line f) e ∙ left-append line f xs ys
    ∙ ap (λ n. left_lines line f xs ++ left_lines n (after_units f xs) ys) (sym a.line)
    ∙ ap (λ g. left_lines line f xs ++ left_lines (line_view mid.line) g ys) (sym a.fields)

-- and what stopped in the first of them
pub left_front : (line : Option Marks) (f : Fields) (units xs ys : List BareUnit) → units ≡ xs ++ ys
    → left_lines line f units ≡ left_lines line f xs ++ left_lines (left_line line f xs) (after_units f xs) ys
left_front line f units xs ys e = ap (left_lines line f) e ∙ left-append line f xs ys

pub after_then : {K : Type 0} (old mid new : Writer K) (units xs ys : List BareUnit) → units ≡ xs ++ ys → IsAfter old mid xs → IsAfter mid new ys → IsAfter old new units
after_then old mid new units xs ys e a b =
    let line = line_view old.line in
    let f = fields_view old.fields in record {
      line = b.line ∙ ap (λ n. left_line n (fields_view mid.fields) ys) a.line ∙ ap (λ g. left_line (left_line line f xs) g ys) a.fields
          ∙ sym (left_line-append line f xs ys) ∙ ap (left_line line f) (sym e);
      fields = b.fields ∙ ap (λ g. after_units g ys) a.fields ∙ sym (fields-append f xs ys) ∙ ap (after_units f) (sym e);
      marks = b.marks ∙ a.marks;
    }

pub after_none : {K : Type 0} (writer : Writer K) → IsAfter writer writer []
after_none writer = record { line = refl; fields = refl; marks = refl }

module _ {K : Type 0} {told : K → Option (List ℕ)} {faults settled : K → ℕ} {lenders : K → List GName} where
  -- one call after another
  pub units_then : {T U : Type 0} {old mid new : Writer K} {units xs ys : List BareUnit} {x : T} {r : Result U Failed}
      → units ≡ xs ++ ys → PutsUnits told faults settled lenders old mid xs (Ok x) → PutsUnits told faults settled lenders mid new ys r
      → PutsUnits told faults settled lenders old new units r
  units_then {old = old} {mid = mid} {new = new} {units = units} {xs = xs} {ys = ys} {r = r} e p q = record {
    puts = puts_then (left_split old mid units xs ys e p.after) p.puts q.puts;
    after = on_ok_weaker r (λ h. after_then old mid new units xs ys e p.after h) q.after;
  }

  -- a call that stopped, and nothing after it
  pub units_fail : {T U : Type 0} {old mid new : Writer K} {units xs : List BareUnit} {e : Failed} {r : Result U Failed} (ys : List BareUnit)
      → units ≡ xs ++ ys → mid.sink ≡ new.sink → IsErrAnd r (λ f. f ≡ e) → PutsUnits {T = T} told faults settled lenders old mid xs (Err e) → PutsUnits told faults settled lenders old new units r
  units_fail {old = old} {mid = mid} {new = new} {units = units} {xs = xs} {e = e} {r = r} ys is same err p =
      let line = line_view old.line in
      let f = fields_view old.fields in record {
        puts = subst (λ s. Puts told faults settled lenders old.sink s (left_lines line f units) r) same
            (puts_fails (left_lines (left_line line f xs) (after_units f xs) ys) (left_front line f units xs ys is) err p.puts);
        after = no_ok (IsAfter old new units) r e err;
      }

  -- nothing was put, and the writer is as it was
  pub no_units : {T : Type 0} {x : T} (writer : Writer K) → PutsUnits told faults settled lenders writer writer [] (Ok x)
  no_units writer = record { puts = puts_nothing writer.sink; after = after_none writer }

-- ---- numbers

pub numbered_both : (marks : Marks) (first rest : List ℕ) → in_marks marks (numbered (first ++ rest)) ≡ in_marks marks (numbered first) ++ in_marks marks (numbered rest)
numbered_both marks [] rest = refl
numbered_both marks (n ∷ first) rest = ap (λ us. text marks (text_of n) ∷ us) (numbered_both marks first rest)

pub numbered_next : {K : Type 0} (old mid : Writer K) (first rest : List ℕ) → mid.marks ≡ old.marks
    → in_marks (marks_view old.marks) (numbered (first ++ rest)) ≡ in_marks (marks_view old.marks) (numbered first) ++ in_marks (marks_view mid.marks) (numbered rest)
numbered_next old mid first rest e =
    numbered_both (marks_view old.marks) first rest
    ∙ ap (λ m. in_marks (marks_view old.marks) (numbered first) ++ in_marks (marks_view m) (numbered rest)) (sym e)
