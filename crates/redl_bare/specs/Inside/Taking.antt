-- A writer takes texts with its marks, which come as numbers.
use Rattle.std.specs.Prelude.{ℕ, List, Option, refl}
use Rattle.std.specs.Borrow.{GName}
use Rattle.redl_io.specs.declared.sink.Failed.{Failed}
use Rattle.redl_idle.specs.Takes.{Taking}
use Rattle.redl_bare.specs.Units.{in_marks}
use Rattle.redl_bare.specs.Inside.Idle.{numbered}
use Rattle.redl_bare.specs.Inside.Puts.{PutsUnits}
use Rattle.redl_bare.specs.Inside.Views.{marks_view}
use Rattle.redl_bare.specs.declared.writer.Writer.{Writer}
use Rattle.redl_bare.specs.Inside.UnitLaws.{units_then, units_fail, no_units, numbered_both, numbered_next}

abbrev pub by_units : {K : Type 0} → (K → Option (List ℕ)) → (K → ℕ) → (K → ℕ) → (K → List GName) → Taking (Writer K) Failed
by_units told faults settled lenders = record {
  Takes = λ T old new shown result. PutsUnits told faults settled lenders old new (in_marks (marks_view old.marks) (numbered shown)) result;
  nothing = λ T taker x. no_units taker;
  then = λ T U old mid new first rest x r p q. units_then (numbered_next old mid first rest p.after.marks) p q;
  stops = λ T U old new first rest e p. units_fail _ (numbered_both (marks_view old.marks) first rest) refl refl p;
}
