-- Lines of units that are put one after another.
use Rattle.std.proofs.Common.{◌≡◌, ℕ, List, [], ◌∷◌, ◌++◌, Option, Result, Ok, Err, OnOk, refl, sym, ap, subst, ◌∙◌, append_assoc, append-nil}
use Rattle.std.specs.Prelude.{IsErrAnd}
use Rattle.std.proofs.lemmas.Result.{on_ok_weaker}
use Rattle.std.specs.Borrow.{GName}
use Rattle.redl_io.specs.Sink.{Puts}
use Rattle.redl_io.specs.declared.sink.Failed.{Failed}
use Rattle.redl_io.proofs.Puts.{PutsSoFar, puts_as, puts_fails, so_far_begins, so_far_goes_on, so_far_stops, so_far_ends}
use Rattle.redl_marks.specs.declared.marks.Marks as code_marks
use Rattle.redl_bare.specs.Units.{BareUnit}
use Rattle.redl_bare.specs.Fields.{kept, after_unit, after_units}
use Rattle.redl_bare.specs.BareText.{unit_text, line_after, lines, line_after_all}
use Rattle.redl_bare.specs.Inside.Puts.{left_lines, left_line, IsAfter, PutsUnits}
use Rattle.redl_bare.specs.Inside.UnitLaws.{no_ok, left_split, left_front, after_then, after_none}
use Rattle.redl_bare.specs.Inside.Views.{fields_view, line_view}
use Rattle.redl_bare.specs.declared.writer.Writer.{Writer}

-- what is written of units by a writer
abbrev written : {K : Type 0} → Writer K → List BareUnit → List ℕ
written writer units = left_lines (line_view writer.line) (fields_view writer.fields) units

-- what holds anyhow
pub always : {T E : Type 0} (P : Type 0) (r : Result T E) → P → OnOk r P
always P (Ok x) p = p
always P (Err f) p = tt

-- a call that puts units in a loop has put the first ones, and the rest is left
pub record UnitsSoFar {K : Type 0} (told : K → Option (List ℕ)) (faults settled : K → ℕ) (lenders : K → List GName)
    (old new : Writer K) (units rest : List BareUnit) : Type 0 where
  pub front : List BareUnit
  pub splits : units ≡ front ++ rest
  pub puts : PutsSoFar told faults settled lenders old.sink new.sink (written old units) (written new rest)
  pub after : IsAfter old new front

module _ {K : Type 0} {told : K → Option (List ℕ)} {faults settled : K → ℕ} {lenders : K → List GName} where
  -- the text of one unit that stays
  one_text : {T : Type 0} (old new : Writer K) (unit : BareUnit) (r : Result T Failed) → kept (fields_view old.fields) unit ≡ unit ∷ []
      → Puts told faults settled lenders old.sink new.sink (unit_text (line_view old.line) unit) r → Puts told faults settled lenders old.sink new.sink (written old (unit ∷ [])) r
  one_text old new unit r k p =
      subst (λ t. Puts told faults settled lenders old.sink new.sink t r)
      (sym (append-nil (unit_text (line_view old.line) unit)) ∙ ap (λ us. lines (line_view old.line) (us ++ [])) (sym k)) p

  -- a call that put it
  pub one_put : {T : Type 0} (old new : Writer K) (unit : BareUnit) (r : Result T Failed) → kept (fields_view old.fields) unit ≡ unit ∷ []
      → Puts told faults settled lenders old.sink new.sink (unit_text (line_view old.line) unit) r → line_view new.line ≡ line_after (line_view old.line) unit
      → fields_view new.fields ≡ after_unit (fields_view old.fields) unit → new.marks ≡ old.marks → PutsUnits told faults settled lenders old new (unit ∷ []) r
  one_put old new unit r k p line fields marks =
      let after : IsAfter old new (unit ∷ []) = record {
        line = line ∙ ap (λ us. line_after_all (line_view old.line) (us ++ [])) (sym k);
        fields = fields;
        marks = marks;
      } in record { puts = one_text old new unit r k p; after = always (IsAfter old new (unit ∷ [])) r after }

  -- the same of one whose line was known where it ended
  pub one_done : {T : Type 0} (old new : Writer K) (unit : BareUnit) (r : Result T Failed) → kept (fields_view old.fields) unit ≡ unit ∷ []
      → Puts told faults settled lenders old.sink new.sink (unit_text (line_view old.line) unit) r → OnOk r (line_view new.line ≡ line_after (line_view old.line) unit)
      → fields_view new.fields ≡ after_unit (fields_view old.fields) unit → new.marks ≡ old.marks → PutsUnits told faults settled lenders old new (unit ∷ []) r
  one_done old new unit r k p line fields marks = record {
    puts = one_text old new unit r k p;
    after = on_ok_weaker r
        (λ e. record { line = e ∙ ap (λ us. line_after_all (line_view old.line) (us ++ [])) (sym k); fields = fields; marks = marks }) line;
  }

  -- and one that stopped in it
  pub one_fails : {T : Type 0} (e : Failed) (old new : Writer K) (unit : BareUnit) (r : Result T Failed) → kept (fields_view old.fields) unit ≡ unit ∷ [] → IsErrAnd r (λ f. f ≡ e)
      → Puts told faults settled lenders old.sink new.sink (unit_text (line_view old.line) unit) r → PutsUnits told faults settled lenders old new (unit ∷ []) r
  one_fails e old new unit r k err p = record { puts = one_text old new unit r k p; after = no_ok (IsAfter old new (unit ∷ [])) r e err }

  -- a call while the marks were others
  pub inside_put : {T U : Type 0} {x : T} {y : U} {units : List BareUnit} (old new : Writer K) (marks back : code_marks.Marks)
      → PutsUnits told faults settled lenders (record old { marks = marks }) new units (Ok x) → back ≡ old.marks
      → PutsUnits told faults settled lenders old (record new { marks = back }) units (Ok y)
  inside_put old new marks back p e = record {
    puts = puts_as p.puts;
    after = record { line = p.after.line; fields = p.after.fields; marks = e };
  }

  -- and one that stopped
  pub inside_fails : {T U : Type 0} {units : List BareUnit} {e : Failed} {r : Result U Failed} (old new : Writer K) (marks : code_marks.Marks) → IsErrAnd r (λ f. f ≡ e)
      → PutsUnits {T = T} told faults settled lenders (record old { marks = marks }) new units (Err e) → PutsUnits told faults settled lenders old new units r
  inside_fails {units = units} {e = e} {r = r} old new marks err p = record {
    puts = puts_fails [] (sym (append-nil (written old units))) err p.puts;
    after = no_ok (IsAfter old new units) r e err;
  }

  -- a call by an equation on the units
  pub units_by : {T : Type 0} {old new : Writer K} {units xs : List BareUnit} {r : Result T Failed}
      → units ≡ xs → PutsUnits told faults settled lenders old new xs r → PutsUnits told faults settled lenders old new units r
  units_by {old = old} {new = new} {r = r} e p = subst (λ us. PutsUnits told faults settled lenders old new us r) (sym e) p

  pub units_begin_by : {units rest : List BareUnit} → units ≡ rest → (writer : Writer K) → UnitsSoFar told faults settled lenders writer writer units rest
  units_begin_by {units = units} e writer = subst (λ r. UnitsSoFar told faults settled lenders writer writer units r) e (record {
    front = [];
    splits = refl;
    puts = so_far_begins writer.sink (written writer units);
    after = after_none writer;
  })

  pub units_go_on : {T : Type 0} {old mid new : Writer K} {units rest : List BareUnit} {x : T} (xs ys : List BareUnit) → rest ≡ xs ++ ys
      → UnitsSoFar told faults settled lenders old mid units rest → PutsUnits told faults settled lenders mid new xs (Ok x)
      → UnitsSoFar told faults settled lenders old new units ys
  units_go_on {old = old} {mid = mid} {new = new} {rest = rest} xs ys e s p = record {
    front = s.front ++ xs;
    splits = s.splits ∙ ap (λ us. s.front ++ us) e ∙ sym (append_assoc s.front xs ys);
    puts = so_far_goes_on (written mid xs) (written new ys) (left_split mid new rest xs ys e p.after) s.puts p.puts;
    after = after_then old mid new (s.front ++ xs) s.front xs refl s.after p.after;
  }

  pub units_stop : {T U : Type 0} {old mid last new : Writer K} {units rest : List BareUnit} {e : Failed} {r : Result U Failed} (xs ys : List BareUnit)
      → rest ≡ xs ++ ys → IsErrAnd r (λ f. f ≡ e) → UnitsSoFar told faults settled lenders old mid units rest
      → PutsUnits {T = T} told faults settled lenders mid last xs (Err e) → last.sink ≡ new.sink → PutsUnits told faults settled lenders old new units r
  units_stop {old = old} {mid = mid} {new = new} {units = units} {rest = rest} {e = e} {r = r} xs ys is err s p same =
      let line = line_view mid.line in
      let f = fields_view mid.fields in record {
        puts = subst (λ k. Puts told faults settled lenders old.sink k (written old units) r) same
            (so_far_stops (left_lines line f xs) (left_lines (left_line line f xs) (after_units f xs) ys) (left_front line f rest xs ys is) err s.puts p.puts);
        after = no_ok (IsAfter old new units) r e err;
      }

  pub units_end : {T : Type 0} {old new : Writer K} {units rest : List BareUnit} {x : T} → rest ≡ []
      → UnitsSoFar told faults settled lenders old new units rest → PutsUnits told faults settled lenders old new units (Ok x)
  units_end {old = old} {new = new} {units = units} none s = record {
    puts = so_far_ends (ap (written new) none) s.puts;
    after = after_then old new new units s.front [] (s.splits ∙ ap (λ us. s.front ++ us) none) s.after (after_none new);
  }
