-- Reading from the left, as functions on lists: in steps that may fail, and in turns.
use Rattle.std.specs.Prelude.{◌≡◌, ℕ, zero, suc, Option, Some, None}

-- a step, and the next one if it succeeded
infixl 10 ◌>>=◌
abbrev pub ◌>>=◌ : {A B : Type 0} → Option A → (A → Option B) → Option B
None >>= f = None
(Some x) >>= f = f x

-- the first of two that succeeded
abbrev pub or_else : {A : Type 0} → Option A → Option A → Option A
or_else None y = y
or_else (Some x) y = Some x

-- the value of a step that succeeded, or else this one
abbrev pub or_same : {A : Type 0} → Option A → A → A
or_same None x = x
or_same (Some y) x = y

-- the result of a function, as plain data by `view`, is what reading gives
abbrev pub Gives : {X Y : Type 0} → (X → Y) → Option X → Option Y → Type 0
Gives view None read = read ≡ None
Gives view (Some x) read = read ≡ Some (view x)

-- one turn of a loop: it ends with an answer, or goes on from another state
pub data Turn (S R : Type 0) : Type 0 where
  done : Option R → Turn S R
  next : S → Turn S R

-- the answer of this turn, or of those after it
abbrev pub turn : {S R : Type 0} → Turn S R → (S → Option R) → Option R
turn (done r) go = r
turn (next s) go = go s

-- the answer after at most this many turns
abbrev pub turns : {S R : Type 0} → (S → Turn S R) → ℕ → S → Option R
turns step zero s = None
turns step (suc n) s = turn (step s) (turns step n)

-- a turn that goes on if a part was read
abbrev pub go_on : {S R : Type 0} → Option S → Turn S R
go_on None = done None
go_on (Some s) = next s
