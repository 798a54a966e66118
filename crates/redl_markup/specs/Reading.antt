-- Reading a piece from the left, unless memory runs out.
use Rattle.std.specs.Prelude.{◌≡◌, Option, Some, None, Result, Ok, Err}
use Rattle.redl_markup.specs.declared.error.MarkupError.{MarkupError}
use Rattle.redl_markup.specs.declared.error.MarkupError.TheVariants.{Unreadable, NoMemory}

-- the cause is right: Unreadable only if reading fails
abbrev pub Fails : {Y : Type 0} → MarkupError → Option Y → Type 0
Fails Unreadable read = read ≡ None
Fails NoMemory read = Unit {0}

-- the result of a function, as plain data by `view`, is what reading gives, unless memory ran out
abbrev pub Finds : {X Y : Type 0} → (X → Y) → Result X MarkupError → Option Y → Type 0
Finds view (Ok x) read = read ≡ Some (view x)
Finds view (Err e) read = Fails e read
