-- Texts with the same marks that are put, or left out.
use Rattle.std.proofs.Common.{◌≡◌, ℕ, List, [], map, false, Option, Result, Ok, Err, sym, ap, subst, ◌∙◌}
use Rattle.std.specs.Prelude.{IsErrAnd}
use Rattle.std.specs.Borrow.{GName}
use Rattle.redl_io.specs.Sink.{Puts}
use Rattle.redl_io.specs.declared.sink.Failed.{Failed}
use Rattle.redl_io.proofs.Puts.{puts_then, puts_fails, puts_nothing}
use Rattle.redl_bare.specs.Units.{Text, byte, in_marks}
use Rattle.redl_bare.specs.Fields.{uncounted}
use Rattle.redl_bare.specs.BareText.{escaped, begun, text_begin, lines, line_after_all}
use Rattle.redl_bare.specs.Inside.Escapes.{is_empty}
use Rattle.redl_bare.specs.Inside.Puts.{IsAfter, PutsUnits}
use Rattle.redl_bare.specs.Inside.Texts.{after_texts}
use Rattle.redl_bare.specs.Inside.UnitLaws.{no_ok}
use Rattle.redl_bare.specs.Inside.Views.{fields_view, line_view, marks_view}
use Rattle.redl_bare.specs.declared.writer.Writer.{Writer}
use Rattle.redl_bare.proofs.FieldLaws.{fields_of_texts}
use Rattle.redl_bare.proofs.LineLaws.{always}
use Rattle.redl_bare.proofs.TextLaws.{characters_line}

-- ---- characters none of which is left out

module _ {K : Type 0} (old : Writer K) (bs : List ℕ) (some : is_empty bs ≡ false)
    (stay : uncounted (fields_view old.fields) (in_marks (marks_view old.marks) (map byte bs)) ≡ in_marks (marks_view old.marks) (map byte bs)) where
  -- a writer in whose line they were put
  after_characters_put : (new : Writer K) → line_view new.line ≡ begun (line_view old.line) (marks_view old.marks)
      → fields_view new.fields ≡ after_texts (fields_view old.fields) (map byte bs) → new.marks ≡ old.marks → IsAfter old new (in_marks (marks_view old.marks) (map byte bs))
  after_characters_put new line fields marks = record {
    line = line ∙ sym (characters_line (line_view old.line) (marks_view old.marks) bs some).1 ∙ ap (line_after_all (line_view old.line)) (sym stay);
    fields = fields ∙ sym (fields_of_texts (marks_view old.marks) (fields_view old.fields) (map byte bs));
    marks = marks;
  }

  module _ {told : K → Option (List ℕ)} {faults settled : K → ℕ} {lenders : K → List GName} where
    pub characters_put : {T U : Type 0} {y : U} (mid new : Writer K) (r : Result T Failed)
        → Puts told faults settled lenders old.sink mid.sink (text_begin (line_view old.line) (marks_view old.marks)) (Ok y)
        → Puts told faults settled lenders mid.sink new.sink (escaped bs) r → line_view new.line ≡ begun (line_view old.line) (marks_view old.marks)
        → fields_view new.fields ≡ after_texts (fields_view old.fields) (map byte bs) → new.marks ≡ old.marks
        → PutsUnits told faults settled lenders old new (in_marks (marks_view old.marks) (map byte bs)) r
    characters_put mid new r p q line fields marks = record {
      puts = puts_then (ap (lines (line_view old.line)) stay ∙ (characters_line (line_view old.line) (marks_view old.marks) bs some).0) p q;
      after = always (IsAfter old new (in_marks (marks_view old.marks) (map byte bs))) r (after_characters_put new line fields marks);
    }

    pub begin_fails : {T U : Type 0} {e : Failed} (new : Writer K) (r : Result U Failed) → IsErrAnd r (λ f. f ≡ e)
        → Puts {T = T} told faults settled lenders old.sink new.sink (text_begin (line_view old.line) (marks_view old.marks)) (Err e)
        → PutsUnits told faults settled lenders old new (in_marks (marks_view old.marks) (map byte bs)) r
    begin_fails {e = e} new r err p = record {
      puts = puts_fails (escaped bs) (ap (lines (line_view old.line)) stay ∙ (characters_line (line_view old.line) (marks_view old.marks) bs some).0) err p;
      after = no_ok (IsAfter old new (in_marks (marks_view old.marks) (map byte bs))) r e err;
    }

-- ---- texts all of which are left out

pub texts_go : {K T : Type 0} {told : K → Option (List ℕ)} {faults settled : K → ℕ} {lenders : K → List GName} {x : T} (old new : Writer K) (texts : List Text)
    → uncounted (fields_view old.fields) (in_marks (marks_view old.marks) texts) ≡ [] → old.sink ≡ new.sink → line_view new.line ≡ line_view old.line
    → fields_view new.fields ≡ after_texts (fields_view old.fields) texts → new.marks ≡ old.marks
    → PutsUnits told faults settled lenders old new (in_marks (marks_view old.marks) texts) (Ok x)
texts_go {told = told} {faults = faults} {settled = settled} {lenders = lenders} {x = x} old new texts gone same line fields marks = record {
  puts = subst (λ t. Puts told faults settled lenders old.sink new.sink t (Ok x)) (ap (lines (line_view old.line)) (sym gone))
      (subst (λ s. Puts told faults settled lenders old.sink s [] (Ok x)) same (puts_nothing old.sink));
  after = record {
    line = line ∙ ap (line_after_all (line_view old.line)) (sym gone);
    fields = fields ∙ sym (fields_of_texts (marks_view old.marks) (fields_view old.fields) texts);
    marks = marks;
  };
}
