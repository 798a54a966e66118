-- The signs of footnotes and endnotes: a note has that of its first reference in the document, which is the count of references of its kind
-- up to there. A reference whose sign is the text after it doesn't count (ECMA-376 Part 1, 17.11.7 and 17.11.14; our own rule).
use Rattle.std.specs.Prelude.{ℕ, ◌+◌, List, [], ◌∷◌, bytes_eq, Option, Some, None, if◌then◌else◌}
use Rattle.redl_reading.specs.Steps.{or_else}
use Rattle.redl_order.specs.Order.{is_same}
use Rattle.redl_order.specs.declared.reference.Named.{Named}
use Rattle.redl_order.specs.declared.reference.Reference.{Reference}
use Rattle.redl_places.specs.declared.sign.NoteSign.{NoteSign}
use Rattle.redl_places.specs.declared.sign.NoteSign.TheVariants.{Own, Count}

-- the sign of a reference, where so many of its kind came before that count
abbrev pub sign_after : ℕ → Reference → NoteSign
sign_after count reference = if reference.own_sign then Own else Count (count + 1)

-- how many references of this kind count up to this one, where so many came before that count
abbrev pub count_after : Named → ℕ → Reference → ℕ
count_after kind count reference = if is_same kind reference.named then (if reference.own_sign then count else count + 1) else count

-- the sign that a reference gives to the notes of this kind with this id, if it names them
abbrev pub sign_by : Named → ℕ → Reference → List ℕ → Option NoteSign
sign_by kind count reference id =
    if is_same kind reference.named then (if bytes_eq reference.id id then Some (sign_after count reference) else None) else None

-- that of the first of these references that names them
abbrev pub sign_from : Named → ℕ → List Reference → List ℕ → Option NoteSign
sign_from kind count [] id = None
sign_from kind count (reference ∷ more) id = or_else (sign_by kind count reference id) (sign_from kind (count_after kind count reference) more id)

-- the sign of the notes of this kind with this id, if these references name it
abbrev pub sign_of : Named → List Reference → List ℕ → Option NoteSign
sign_of kind references id = sign_from kind 0 references id
