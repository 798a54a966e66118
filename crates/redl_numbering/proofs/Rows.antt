-- Worked rows: numbers of paragraphs, by ECMA-376 Part 1, 17.9.
use Rattle.std.proofs.Common.{◌≡◌, refl, ℕ, Bool, true, false, List, [], ◌∷◌, codes, Option, Some, None}
use Rattle.std.specs.Fmt.{digits}
use Rattle.redl_numerals.specs.declared.format.Format.{Format}
use Rattle.redl_numerals.specs.declared.format.Format.TheVariants.{Decimal, DecimalZero, UpperRoman, LowerLetter, Bullet}
use Rattle.redl_numerals.specs.declared.number.Number.{Number}
use Rattle.redl_numerals.specs.declared.number.Number.TheVariants.{Plus}
use Rattle.redl_lists.specs.declared.level.Level.{Level}
use Rattle.redl_lists.specs.declared.own.Own.{Own}
use Rattle.redl_lists.specs.declared.table.AbstractNum.{AbstractNum}
use Rattle.redl_lists.specs.declared.table.Num.{Num}
use Rattle.redl_lists.specs.declared.table.Override.{Override}
use Rattle.redl_lists.specs.declared.table.Style.{Style}
use Rattle.redl_lists.specs.declared.table.Tables.{Tables}
use Rattle.redl_numbering.specs.Counts.{Counts, counts_after, nothing_counted}

-- ---- lists made by hand

abbrev level : Format → Option Number → Bool → List ℕ → Option Level
level format restart is_legal text =
    Some (record { start = Some (Plus 1); restart = restart; format = format; is_legal = is_legal; text = text; style = None; has_picture = false })

abbrev list : List (Option Level) → AbstractNum
list levels = record { id = Some (codes "0"); link = None; style = None; levels = levels }

abbrev num : List ℕ → List (Option Override) → Num
num id overrides = record { id = Some id; list = Some (codes "0"); overrides = overrides }

abbrev from : Number → Option Override
from start = Some (record { start = Some start; level = None })

abbrev tables : List (Option Level) → List (Option Override) → Tables
tables levels overrides = record { lists = list levels ∷ []; nums = num (codes "1") [] ∷ num (codes "2") overrides ∷ []; styles = [] }

-- a paragraph at a level of the first or the second num
abbrev at : List ℕ → ℕ → Own
at id k = record { num = Some id; level = Some (Plus k); style = None; ends_section = false }

abbrev one : ℕ → Own
one k = at (codes "1") k

abbrev two : ℕ → Own
two k = at (codes "2") k

-- what is said of the places of paragraphs, one after the other
said : Tables → Counts → List Own → List (List ℕ)
said t counts [] = []
said t counts (own ∷ more) = (counts_after t 9 counts own).here ∷ said t (counts_after t 9 counts own) more

abbrev three : List (Option Level)
three = level Decimal None false (codes "%1.") ∷ level Decimal None false (codes "%1.%2") ∷ level LowerLetter None false (codes "(%3)") ∷ []

-- a deeper level begins again after one above it
three_levels : said (tables three []) nothing_counted (one 0 ∷ one 1 ∷ one 1 ∷ one 2 ∷ one 2 ∷ one 0 ∷ one 1 ∷ [])
    ≡ codes "1." ∷ codes "1.1" ∷ codes "1.2" ∷ codes "(a)" ∷ codes "(b)" ∷ codes "2." ∷ codes "2.1" ∷ []
unfolding said digits
three_levels = refl

-- a level that was passed over is used
passed_over : said (tables three []) nothing_counted (one 1 ∷ one 0 ∷ []) ≡ codes "1.1" ∷ codes "2." ∷ []
unfolding said digits
passed_over = refl

-- a num begins its level again once, and nums of one list count together
begins_once : said (tables three (from (Plus 7) ∷ [])) nothing_counted (one 0 ∷ one 0 ∷ two 0 ∷ two 0 ∷ one 0 ∷ [])
    ≡ codes "1." ∷ codes "2." ∷ codes "7." ∷ codes "8." ∷ codes "9." ∷ []
unfolding said digits
begins_once = refl

-- what a num begins with holds whenever the level begins again
from_there : said (tables three (None ∷ from (Plus 4) ∷ [])) nothing_counted (two 0 ∷ two 1 ∷ two 1 ∷ two 0 ∷ two 1 ∷ [])
    ≡ codes "1." ∷ codes "1.4" ∷ codes "1.5" ∷ codes "2." ∷ codes "2.4" ∷ []
unfolding said digits
from_there = refl

-- Restart 0 never begins again, restart 1 after the first level alone, and restart 3 of the third level counts as none.
restarts : List ℕ → ℕ → List (Option Level)
restarts text r = level Decimal None false (codes "%1.") ∷ level Decimal None false (codes "%1.%2") ∷ level Decimal (Some (Plus r)) false text ∷ []

never : said (tables (restarts (codes "%3") 0) []) nothing_counted (one 0 ∷ one 2 ∷ one 0 ∷ one 2 ∷ []) ≡ codes "1." ∷ codes "1" ∷ codes "2." ∷ codes "2" ∷ []
unfolding said restarts digits
never = refl

after_the_first : said (tables (restarts (codes "%3") 1) []) nothing_counted (one 0 ∷ one 1 ∷ one 2 ∷ one 1 ∷ one 2 ∷ one 0 ∷ one 1 ∷ one 2 ∷ [])
    ≡ codes "1." ∷ codes "1.1" ∷ codes "1" ∷ codes "1.2" ∷ codes "2" ∷ codes "2." ∷ codes "2.1" ∷ codes "1" ∷ []
unfolding said restarts digits
after_the_first = refl

as_none : said (tables (restarts (codes "%3") 3) []) nothing_counted (one 0 ∷ one 1 ∷ one 2 ∷ one 1 ∷ one 2 ∷ []) ≡ codes "1." ∷ codes "1.1" ∷ codes "1" ∷ codes "1.2" ∷ codes "1" ∷ []
unfolding said restarts digits
as_none = refl

-- all numbers of a level are legal (17.9.4)
articles : said (tables (level UpperRoman None false (codes "Article %1") ∷ level DecimalZero None true (codes "Section %1.%2") ∷ []) []) nothing_counted (one 0 ∷ one 1 ∷ [])
    ≡ codes "Article I" ∷ codes "Section 1.01" ∷ []
unfolding said digits
articles = refl

-- a deeper level is nothing, and per cent signs stay
deeper : said (tables (level Decimal None false (codes "%%1%0%2%") ∷ []) []) nothing_counted (one 0 ∷ []) ≡ codes "%1%0%" ∷ []
unfolding said digits
deeper = refl

-- U+F0B7 of a font of signs is a bullet
bullets : said (tables (level Bullet None false (239 ∷ 130 ∷ 183 ∷ []) ∷ level Bullet None false (codes "-") ∷ []) []) nothing_counted (one 0 ∷ one 1 ∷ [])
    ≡ (226 ∷ 128 ∷ 162 ∷ []) ∷ codes "-" ∷ []
unfolding said digits
bullets = refl

-- a paragraph without a number has the last one before it
none_here : said (tables three []) nothing_counted (at (codes "0") 0 ∷ one 0 ∷ at (codes "0") 0 ∷ at (codes "9") 0 ∷ one 8 ∷ one 0 ∷ [])
    ≡ [] ∷ codes "1." ∷ codes "before 1." ∷ codes "before 1." ∷ codes "before 1." ∷ codes "2." ∷ []
unfolding said digits
none_here = refl

-- ---- styles (17.9.23)

abbrev style : List ℕ → Option (List ℕ) → Bool → Option (List ℕ) → Option Number → Style
style id based_on is_default num level = record { id = Some id; based_on = based_on; is_default = is_default; num = num; level = level }

abbrev named : Option Level
named = Some (record { start = Some (Plus 1); restart = None; format = Decimal; is_legal = false; text = codes "%1.%2"; style = Some (codes "H2"); has_picture = false })

abbrev styled : Tables
styled = record {
  lists = list (level Decimal None false (codes "%1.") ∷ named ∷ []) ∷ [];
  nums = num (codes "1") [] ∷ [];
  styles = style (codes "H1") None false (Some (codes "1")) None ∷ style (codes "H2") (Some (codes "H1")) false None (Some (Plus 0)) ∷ style (codes "N") (Some (codes "H2")) true (Some (codes "0")) None ∷ [];
}

abbrev of : Option (List ℕ) → Own
of name = record { num = None; level = None; style = name; ends_section = false }

-- a style has the num of the one that it is based on, and the level that names it; the default style has none
by_styles : said styled nothing_counted (of (Some (codes "H1")) ∷ of (Some (codes "H2")) ∷ of None ∷ of (Some (codes "H2")) ∷ of (Some (codes "X")) ∷ [])
    ≡ codes "1." ∷ codes "1.1" ∷ codes "before 1.1" ∷ codes "1.2" ∷ codes "before 1.2" ∷ []
unfolding said digits
by_styles = refl

-- a ring of styles, of which at most so many are looked at
ring : said (record { lists = []; nums = []; styles = style (codes "A") (Some (codes "A")) true None None ∷ [] }) nothing_counted (of None ∷ []) ≡ [] ∷ []
unfolding said
ring = refl
