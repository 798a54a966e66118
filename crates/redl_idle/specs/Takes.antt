-- What takes a text in pieces, as a sink does: how it changes by that.
use Rattle.std.specs.Prelude.{ℕ, List, [], ◌++◌, Result, Ok, Err}

-- what a call says of a taker to which it gave a text: all of it with `Ok`, and with `Err` it stopped on the way
pub record Taking (K E : Type 0) : Type 1 where
  pub Takes : (T : Type 0) → K → K → List ℕ → Result T E → Type 0
  -- no text was given, and the taker is as it was
  pub nothing : (T : Type 0) (taker : K) (x : T) → Takes T taker taker [] (Ok x)
  -- one text after another
  pub then : (T U : Type 0) (old mid new : K) (first rest : List ℕ) (x : T) (r : Result U E)
      → Takes T old mid first (Ok x) → Takes U mid new rest r → Takes U old new (first ++ rest) r
  -- the call stopped in the first part, and nothing more was given
  pub stops : (T U : Type 0) (old new : K) (first rest : List ℕ) (e : E) → Takes T old new first (Err e) → Takes U old new (first ++ rest) (Err e)

abbrev pub Takes : {K E T : Type 0} → Taking K E → K → K → List ℕ → Result T E → Type 0
Takes {T = T} taking old new text result = taking.Takes T old new text result
