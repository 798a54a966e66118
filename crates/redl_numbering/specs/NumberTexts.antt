-- The text of a number (ECMA-376 Part 1, 17.9.11, 17.9.4, 17.9.9 and 17.9.17).
use Rattle.std.specs.Prelude.{ℕ, zero, suc, ◌-◌, ◌==◌, ◌&&◌, ◌||◌, Bool, true, false, nat_lt, nat_le, List, [], ◌∷◌, ◌++◌, slice_index, unwrap_or, Option, Some, None, if◌then◌else◌}
use Rattle.redl_numerals.specs.Formats.{format_in}
use Rattle.redl_numerals.specs.Numerals.{numeral}
use Rattle.redl_numerals.specs.declared.format.Format.{Format}
use Rattle.redl_numerals.specs.declared.format.Format.TheVariants.{Decimal, Bullet}
use Rattle.redl_numerals.specs.declared.number.Number.{Number}
use Rattle.redl_numerals.specs.declared.number.Number.TheVariants.{Plus}
use Rattle.redl_lists.specs.Levels.{short}
use Rattle.redl_lists.specs.declared.level.Level.{Level}
use Rattle.redl_lists.specs.declared.table.Override.{Override}
use Rattle.redl_numbering.specs.Nums.{at_place, level_at}

-- ---- places for numbers

-- Each `%n` has what level n is, counted from 1. `pending`: a per cent sign came last, which is not written so far.
abbrev pub filled_from : (ℕ → List ℕ) → Bool → List ℕ → List ℕ
filled_from part false [] = []
filled_from part true [] = 37 ∷ []
filled_from part false (b ∷ bs) = if b == 37 then filled_from part true bs else b ∷ filled_from part false bs
filled_from part true (b ∷ bs) =
    if nat_le 49 b && nat_le b 57 then part (b - 49) ++ filled_from part false bs
    else 37 ∷ (if b == 37 then filled_from part true bs else b ∷ filled_from part false bs)

-- ---- bullets

-- U+2022
abbrev pub bullet : List ℕ
bullet = 226 ∷ 128 ∷ 162 ∷ []

-- a character from U+E000 to U+F8FF begins with this byte
abbrev pub is_private : ℕ → List ℕ → Bool
is_private b bs = (b == 238) || ((b == 239) && nat_lt (slice_index bs 0) 164)

-- signs of a font of one's own are bullets; `skip` bytes are those of such a sign
abbrev pub bullets_from : ℕ → List ℕ → List ℕ
bullets_from skip [] = []
bullets_from (suc n) (b ∷ bs) = bullets_from n bs
bullets_from zero (b ∷ bs) = if is_private b bs then bullet ++ bullets_from 2 bs else b ∷ bullets_from 0 bs

-- the text of a bullet: where it has none, a picture is one sign
abbrev pub bullet_text : Bool → List ℕ → List ℕ
bullet_text has_picture [] = if has_picture then bullet else []
bullet_text has_picture (b ∷ bs) = bullets_from 0 (b ∷ bs)

-- ---- the whole text

-- the form of a level, which is decimal where there is no such level
abbrev pub format_at : Option Level → Format
format_at None = Decimal
format_at (Some level) = level.format

-- what level n is in the text of level k: nothing, where it is deeper
abbrev pub part_text : List (Option Override) → List (Option Level) → ℕ → List (Option Number) → Bool → ℕ → List ℕ
part_text overrides levels k values is_legal n =
    if nat_lt k n then []
    else numeral (format_in is_legal (format_at (level_at overrides levels n))) (unwrap_or (at_place values n) (Plus 0))

abbrev pub is_bullet : Format → Bool
is_bullet Bullet = true
is_bullet _ = false

-- that of a level, which has the values of all in it
abbrev pub level_text : List (Option Override) → List (Option Level) → ℕ → List (Option Number) → Option Level → List ℕ
level_text overrides levels k values None = []
level_text overrides levels k values (Some level) =
    if is_bullet level.format then bullet_text level.has_picture level.text
    else filled_from (part_text overrides levels k values level.is_legal) false level.text

-- that of level k, where the levels have these values, if it has at most 200 bytes
abbrev pub number_text : List (Option Override) → List (Option Level) → ℕ → List (Option Number) → List ℕ
number_text overrides levels k values = short 200 (level_text overrides levels k values (level_at overrides levels k))
