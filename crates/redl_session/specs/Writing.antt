-- What writing a session does.
use Rattle.std.specs.Prelude.{◌≡◌, ℕ, List, Option, Result, Ok, Err}
use Rattle.std.specs.Borrow.{GName}
use Rattle.redl_io.specs.Sink.{Puts}
use Rattle.redl_io.specs.declared.sink.Failed as sink
use Rattle.redl_session.specs.declared.refusal.SessionWriteError.{SessionWriteError}
use Rattle.redl_session.specs.declared.refusal.SessionWriteError.TheVariants.{Failed, NoMemory}

-- the text was put: all of it, a prefix where the sink failed, or nothing where memory ran out
abbrev pub PutsOrNothing : {K : Type 0} → (told : K → Option (List ℕ)) (faults settled : K → ℕ) (lenders : K → List GName)
    (old new : K) (text : List ℕ) → Result (Unit {0}) SessionWriteError → Type 0
PutsOrNothing told faults settled lenders old new text (Ok done) = Puts {T = Unit {0}} told faults settled lenders old new text (Ok done)
PutsOrNothing told faults settled lenders old new text (Err Failed) =
    (failed : sink.Failed) × Puts {T = Unit {0}} told faults settled lenders old new text (Err failed)
PutsOrNothing told faults settled lenders old new text (Err NoMemory) = new ≡ old
