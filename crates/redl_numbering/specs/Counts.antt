-- The counting of numbered paragraphs (ECMA-376 Part 1, 17.9.10, 17.9.25, 17.9.26; the rest is our own rule, as word processors do it).
use Rattle.std.specs.Prelude.{ℕ, zero, suc, ◌==◌, ◌&&◌, ◌||◌, not, Bool, true, false, nat_lt, nat_le, List, [], ◌∷◌, ◌++◌, codes, slice_get, is_some, unwrap_or, Option, Some, None, if◌then◌else◌}
use Rattle.std.specs.BTreeMap.{insert_entry, is_at}
use Rattle.std.specs.Map.{lookup}
use Rattle.std.specs.Ordering.{nat_cmp}
use Rattle.redl_numerals.specs.Numbers.{next}
use Rattle.redl_numerals.specs.declared.number.Number.{Number}
use Rattle.redl_numerals.specs.declared.number.Number.TheVariants.{Plus, Minus}
use Rattle.redl_lists.specs.declared.level.Level.{Level}
use Rattle.redl_lists.specs.declared.table.Override.{Override}
use Rattle.redl_lists.specs.declared.table.Tables.{Tables}
use Rattle.redl_numbering.specs.Nums.{Counted, at_place, counted, start_at, start_override, restart_at}
use Rattle.redl_numbering.specs.NumberTexts.{number_text}
use Rattle.redl_lists.specs.declared.own.Own.{Own}

-- the values of the nine levels of a list, of which some have none
abbrev pub Values : Type 0
Values = List (Option Number)

-- which of the nine levels of a num were met
abbrev pub Met : Type 0
Met = List Bool

-- whether a level was met
abbrev pub was_met : Met → ℕ → Bool
was_met met j = unwrap_or (slice_get met j) false

-- what is so of each of nine levels
abbrev pub each_level : {A : Type 0} → (ℕ → A) → List A
each_level f = f 0 ∷ f 1 ∷ f 2 ∷ f 3 ∷ f 4 ∷ f 5 ∷ f 6 ∷ f 7 ∷ f 8 ∷ []

-- ---- a paragraph at level k of a num

-- 1. a level is met for the first time: it begins again where the num says so, and with it each deeper level
abbrev pub begins_at : List (Option Override) → Met → ℕ → ℕ → Bool
begins_at overrides met k j = nat_le j k && (not (was_met met j) && is_some (start_override overrides j))

abbrev pub begins_again : List (Option Override) → Met → ℕ → ℕ → Bool
begins_again overrides met k zero = begins_at overrides met k 0
begins_again overrides met k (suc m) = begins_again overrides met k m || begins_at overrides met k (suc m)

-- what a level has before the paragraph is counted
abbrev pub left : List (Option Override) → Met → ℕ → Values → ℕ → Option Number
left overrides met k values m = if begins_again overrides met k m then None else at_place values m

-- 2. a level above that has nothing begins
abbrev pub begun : Number → Option Number → Option Number
begun start old = Some (unwrap_or old start)

-- 3. the level itself begins, or goes up by one
abbrev pub one_more : Number → Option Number → Option Number
one_more start None = Some start
one_more start (Some n) = Some (next n)

-- 4. a deeper level m has nothing from here on, but where it begins again after other levels alone
abbrev pub stays : Option Number → ℕ → ℕ → Bool
stays None k m = false
stays (Some (Plus r)) k m = (r == 0) || (nat_le r m && nat_le r k)
stays (Some (Minus r)) k m = false

abbrev pub value_after : List (Option Override) → List (Option Level) → ℕ → ℕ → Option Number → Option Number
value_after overrides levels k m old =
    if nat_lt m k then begun (start_at overrides levels m) old
    else if m == k then one_more (start_at overrides levels m) old
    else if stays (restart_at overrides levels m) k m then old
    else None

-- the values of the list after the paragraph
abbrev pub values_after : List (Option Override) → List (Option Level) → Met → ℕ → Values → Values
values_after overrides levels met k values = each_level (λ m. value_after overrides levels k m (left overrides met k values m))

-- the levels that were met
abbrev pub met_after : Met → ℕ → Met
met_after met k = each_level (λ j. nat_le j k || was_met met j)

-- ---- the state

-- What was counted in a story: the values of each list and the levels that each num met, by their places; the last number with a
-- text, or no text; and what is said of a place here: the number of the paragraph, or the last one before it.
pub record Counts : Type 0 where
  pub values : List (ℕ × Values)
  pub met : List (ℕ × Met)
  pub last : List ℕ
  pub here : List ℕ

abbrev pub nothing_counted : Counts
nothing_counted = record { values = []; met = []; last = []; here = [] }

-- what a table has for a place, and a table that has this for it
abbrev pub entry : {A : Type 0} → List (ℕ × A) → ℕ → A → A
entry rows place none = unwrap_or (lookup (is_at (nat_cmp place)) rows) none

abbrev pub no_values : Values
no_values = each_level (λ m. None)

abbrev pub nothing_met : Met
nothing_met = each_level (λ m. false)

-- ---- what is said of a place

abbrev pub is_filled : List ℕ → Bool
is_filled [] = false
is_filled (b ∷ bs) = true

abbrev pub before : List ℕ → List ℕ
before last = if is_filled last then codes "before " ++ last else []

abbrev pub clause_by : List ℕ → List ℕ → List ℕ
clause_by own last = if is_filled own then own else before last

-- a paragraph has this number
abbrev pub saying : Counts → List ℕ → Counts
saying counts own = record counts { last = if is_filled own then own else counts.last; here = clause_by own counts.last }

-- no paragraph is here
abbrev pub passed : Counts → Counts
passed counts = record counts { here = before counts.last }

-- ---- a paragraph

abbrev pub counted_more : Counts → Counted → Counts
counted_more counts found =
    let met = entry counts.met found.num nothing_met in
    let values = values_after found.overrides found.levels met found.level (entry counts.values found.list no_values) in
    saying (record counts { values = insert_entry nat_cmp counts.values found.list values; met = insert_entry nat_cmp counts.met found.num (met_after met found.level) })
    (number_text found.overrides found.levels found.level values)

abbrev pub counts_with : Counts → Option Counted → Counts
counts_with counts None = passed counts
counts_with counts (Some found) = counted_more counts found

-- the number of a paragraph with this num and level that was counted last of its list
abbrev pub number_now : Counts → Counted → List ℕ
number_now counts found = number_text found.overrides found.levels found.level (entry counts.values found.list no_values)

-- after a paragraph that says this
abbrev pub counts_after : Tables → ℕ → Counts → Own → Counts
counts_after tables longest counts own = counts_with counts (counted tables longest own)
