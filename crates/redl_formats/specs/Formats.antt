-- Formats, of the rows of a listing or of other items: the text of each, and formats by their names (our own rule).
use Rattle.std.specs.Prelude.{◌≡◌, ◌≤◌, ◌+◌, ℕ, Bool, true, false, List, [], ◌∷◌, ◌++◌, map, codes, Option, Some, None, if◌then◌else◌, Vec, vec_len, vec_capacity}
use Rattle.std.specs.Global.{Global}
use Rattle.std.specs.List.{flat_map, join_with_byte}
use Rattle.std.specs.Str.{bytes_eq}

-- what a format was given: the items so far, and whether it was closed
pub record Given (I : Type 0) : Type 0 where
  pub items : List I
  pub closed : Bool

-- a line for each item; closing adds nothing
abbrev pub lines_of : {I : Type 0} → (I → List ℕ) → List I → Bool → List ℕ
lines_of piece_of items closed = flat_map piece_of items

-- the end of an array (RFC 8259)
abbrev pub array_end : Bool → List ℕ
array_end false = []
array_end true = codes "]\n"

-- an array with a value for each item, which closing ends
abbrev pub array_of : {I : Type 0} → (I → List ℕ) → List I → Bool → List ℕ
array_of piece_of items closed = codes "[" ++ (join_with_byte 44 (map piece_of items) ++ array_end closed)

-- a comma, unless there is no item
abbrev pub comma_after : {I : Type 0} → List I → List ℕ
comma_after [] = []
comma_after (item ∷ items) = 44 ∷ []

-- what code keeps of the array: its text, and until it is closed room for its end
pub record IsArrayDraft {I : Type 0} (piece_of : I → List ℕ) (items : List I) (closed : Bool) (text : Vec ℕ Global) : Type 0 where
  pub array : text.items ≡ array_of piece_of items closed
  pub room : closed ≡ false → vec_len text + 2 ≤ vec_capacity text

-- ---- names

-- the first format that has the name
abbrev pub first_named : {F : Type 0} → (F → List ℕ) → List ℕ → List F → Option F
first_named name_of name [] = None
first_named name_of name (format ∷ more) = if bytes_eq (name_of format) name then Some format else first_named name_of name more

-- the formats without that one
abbrev pub without_named : {F : Type 0} → (F → List ℕ) → List ℕ → List F → List F
without_named name_of name [] = []
without_named name_of name (format ∷ more) = if bytes_eq (name_of format) name then more else format ∷ without_named name_of name more

-- what listing gives: the text of the chosen format, or that there is none
abbrev pub IsListed : {F : Type 0} → Option F → (F → List ℕ) → Bool → List ℕ → Type 0
IsListed None text_of found made = (found ≡ false) × (made ≡ [])
IsListed (Some format) text_of found made = (found ≡ true) × (made ≡ text_of format)
