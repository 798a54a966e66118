-- A format of the tests' own, of any name, and its text.
use Rattle.std.specs.Prelude.{◌≡◌, ◌≤◌, ◌+◌, ℕ, Bool, true, false, List, [], ◌∷◌, ◌++◌, map, Vec, vec_len, vec_capacity}
use Rattle.std.specs.Global.{Global}
use Rattle.redl_listing.specs.declared.row.Row.{Row}

-- its name, the rows so far, and whether it was closed
pub record Count : Type 0 where
  pub title : List ℕ
  pub rows : List Row
  pub closed : Bool

abbrev pub line_end : Bool → List ℕ
line_end false = []
line_end true = 10 ∷ []

-- a number sign for each row, and a newline at the end
abbrev pub count_listing : List Row → Bool → List ℕ
count_listing rows closed = map (λ _. 35) rows ++ line_end closed

-- what code keeps of it: its text, and until it is closed room for the newline
pub record IsCountDraft (rows : List Row) (closed : Bool) (text : Vec ℕ Global) : Type 0 where
  pub listing : text.items ≡ count_listing rows closed
  pub room : closed ≡ false → vec_len text + 1 ≤ vec_capacity text
