-- The levels of the nums that paragraphs have: all that the counting reads of them.
use Rattle.std.specs.Prelude.{ℕ, zero, suc, Bool, false, List, [], ◌∷◌, ◌++◌, length, slice_get, Option, Some, None, unwrap_or, if◌then◌else◌}
use Rattle.redl_lists.specs.declared.level.Level.{Level}
use Rattle.redl_lists.specs.declared.table.AbstractNum.{AbstractNum}
use Rattle.redl_lists.specs.declared.table.Num.{Num}
use Rattle.redl_lists.specs.declared.table.Override.{Override}
use Rattle.redl_lists.specs.declared.table.Tables.{Tables}
use Rattle.redl_numbering.specs.Nums.{level_at, list_place, restart_at, start_at, start_override}
use Rattle.redl_page_numbers.specs.declared.row.LevelRow.{LevelRow}
use Rattle.redl_page_numbers.specs.declared.row.Place.{Place}

-- what each place below this one gives, one after the other
abbrev pub gathered : {A : Type 0} → (ℕ → List A) → ℕ → List A
gathered rows zero = []
gathered rows (suc n) = gathered rows n ++ rows n

-- level k of a num that says this of levels, whose list says that
abbrev pub level_row : Place → List (Option Override) → List (Option Level) → ℕ → Level → LevelRow
level_row place overrides levels k level = record {
  num = place.num;
  list = place.list;
  level = k;
  start = start_at overrides levels k;
  again = start_override overrides k;
  restart = restart_at overrides levels k;
  format = level.format;
  is_legal = level.is_legal;
  has_picture = level.has_picture;
  text = level.text;
}

-- where there is such a level
abbrev pub row_if_any : Place → List (Option Override) → List (Option Level) → ℕ → Option Level → List LevelRow
row_if_any place overrides levels k None = []
row_if_any place overrides levels k (Some level) = level_row place overrides levels k level ∷ []

abbrev pub level_rows : Place → List (Option Override) → List (Option Level) → ℕ → List LevelRow
level_rows place overrides levels k = row_if_any place overrides levels k (level_at overrides levels k)

-- the nine levels of a num, whose list stands there
abbrev pub levels_in : ℕ → Num → ℕ → Option AbstractNum → List LevelRow
levels_in place num at None = []
levels_in place num at (Some list) = gathered (level_rows (record { num = place; list = at }) num.overrides list.levels) 9

abbrev pub levels_at : Tables → ℕ → Num → Option ℕ → List LevelRow
levels_at tables place num None = []
levels_at tables place num (Some at) = levels_in place num at (slice_get tables.lists at)

abbrev pub levels_of : Tables → ℕ → Option Num → List LevelRow
levels_of tables place None = []
levels_of tables place (Some num) = levels_at tables place num (list_place tables num)

-- those of the num in this place, where it is used
abbrev pub num_levels : Tables → List Bool → ℕ → List LevelRow
num_levels tables used place = if unwrap_or (slice_get used place) false then levels_of tables place (slice_get tables.nums place) else []

abbrev pub used_levels : Tables → List Bool → List LevelRow
used_levels tables used = gathered (num_levels tables used) (length tables.nums)
