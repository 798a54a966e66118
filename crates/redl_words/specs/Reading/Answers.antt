-- What a reader of words answers: what reading gives, or its cause.
use Rattle.std.specs.Prelude.{◌≡◌, Option, Some, None, Result, Ok, Err}
use Rattle.redl_words.specs.declared.error.WordsError.{WordsError}
use Rattle.redl_words.specs.declared.error.WordsError.TheVariants.{Usage, NoMemory}

-- the cause is right: Usage only if reading fails
abbrev pub Fails : {Y : Type 0} → WordsError → Option Y → Type 0
Fails Usage read = read ≡ None
Fails NoMemory read = Unit {0}

-- the answer is what reading gives, unless memory ran out
abbrev pub Finds : {X Y : Type 0} → (X → Y) → Result X WordsError → Option Y → Type 0
Finds view (Ok x) read = read ≡ Some (view x)
Finds view (Err error) read = Fails error read
