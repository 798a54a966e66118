-- A call that puts the lines of units.
use Rattle.std.specs.Prelude.{◌≡◌, ℕ, List, Option, None, Result, OnOk}
use Rattle.std.specs.Borrow.{GName}
use Rattle.redl_io.specs.Sink.{Puts}
use Rattle.redl_io.specs.declared.sink.Failed.{Failed}
use Rattle.redl_bare.specs.Marks.{Marks, no_marks}
use Rattle.redl_bare.specs.Units.{BareUnit}
use Rattle.redl_bare.specs.Fields.{Fields, no_field, after_units, uncounted}
use Rattle.redl_bare.specs.BareText.{lines, line_after_all}
use Rattle.redl_bare.specs.Inside.Views.{fields_view, line_view, marks_view}
use Rattle.redl_bare.specs.declared.writer.Writer.{Writer}

-- what is written of these units, but for the results that are left out, where this line and these fields are open
abbrev pub left_lines : Option Marks → Fields → List BareUnit → List ℕ
left_lines line fields units = lines line (uncounted fields units)

-- the line that is open after them
abbrev pub left_line : Option Marks → Fields → List BareUnit → Option Marks
left_line line fields units = line_after_all line (uncounted fields units)

-- a writer is as these units leave it
pub record IsAfter {K : Type 0} (old new : Writer K) (units : List BareUnit) : Type 0 where
  pub line : line_view new.line ≡ left_line (line_view old.line) (fields_view old.fields) units
  pub fields : fields_view new.fields ≡ after_units (fields_view old.fields) units
  pub marks : new.marks ≡ old.marks

-- it put what is written of these units, and left the writer so
pub record PutsUnits {K T : Type 0} (told : K → Option (List ℕ)) (faults settled : K → ℕ) (lenders : K → List GName)
    (old new : Writer K) (units : List BareUnit) (result : Result T Failed) : Type 0 where
  pub puts : Puts told faults settled lenders old.sink new.sink (left_lines (line_view old.line) (fields_view old.fields) units) result
  pub after : OnOk result (IsAfter old new units)

-- no unit was put by it yet
pub record IsNew {K : Type 0} (writer : Writer K) : Type 0 where
  pub line : line_view writer.line ≡ None
  pub fields : fields_view writer.fields ≡ no_field
  pub marks : marks_view writer.marks ≡ no_marks
