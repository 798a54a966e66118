-- The text of a day is that of its year, month and day.
use Rattle.std.proofs.Common.{◌≡◌, ℕ, zero, suc, ◌+◌, ◌-◌, ◌<◌, ◌≤◌, inl, inr, List, refl, ap, ◌∙◌, arith, ℤ, pos, negsuc, ◌/◌, ◌%◌, [], ◌∷◌, ◌++◌, ◌+ℤ◌, ◌-ℤ◌, ◌≤ℤ◌, unsigned_abs}
use Rattle.std.specs.Str.{IsAscii, IsUtf8}
use Rattle.std.proofs.lemmas.Str.{IsAscii-append, IsUtf8-from_ascii}
use Rattle.std.proofs.lemmas.Str.Ascii.{IsAscii-nil, IsAscii-cons}
use Rattle.std.proofs.lemmas.Bool.{lt-ltb, le-ltb, cases_lt}
use Rattle.jiff_core.specs.declared.civil.date.Date.{Date}
use Rattle.jiff_core.specs.Calendar.{days_in_year, days_in_month, days_of_months, day_of_year, day_count, IsCivilDate}
use Rattle.jiff_core.specs.Date.{epoch_day}
use Rattle.jiff_core.proofs.SignedLemmas.{signed_arith}
use Rattle.jiff_core.proofs.MarchLemmas.{day_count-early}
use Rattle.jiff_core.proofs.CalendarLemmas.{days_from_civil-day_count, days_of_months-zero, days_of_months_more, days_of_months_mono, day_of_year_bound, day_count-day_of_year, day_count-next_year, day_count-later_year, day_count-lt_year}
use Rattle.redl_stamp.specs.Moment.{first_moment}
use Rattle.redl_formats.specs.Dates.{year_and_day, month_and_day, two_digits, day_text, ymd_text, year_text, month_text, time_text, since_text, moment_text}

-- ---- years

year-here : (years year days : ℕ) → days < days_in_year (pos year) → year_and_day (suc years) year days ≡ (year, days)
unfolding year_and_day
year-here years year days h = rw (lt-ltb days (days_in_year (pos year)) h) refl

year-later : (years year days : ℕ) → days_in_year (pos year) ≤ days → year_and_day (suc years) year days ≡ year_and_day years (year + 1) (days - days_in_year (pos year))
unfolding year_and_day
year-later years year days h = rw (le-ltb days (days_in_year (pos year)) h) refl

year-none : (year days : ℕ) → year_and_day zero year days ≡ (year, days)
unfolding year_and_day
year-none year days = refl

-- the day of this year is found in it, or in a later one
year_and_day-at : (years year later m d days : ℕ) → IsCivilDate (pos later) m d → year ≤ later → later ≤ year + years → days + day_count (pos year) 1 1 ≡ day_count (pos later) m d
    → year_and_day years year days ≡ (later, day_of_year (pos later) m d - 1)
year_and_day-at zero year later m d days is low high e =
    let same : later ≡ year = omega arith in
    let place : days ≡ day_of_year (pos later) m d - 1 = omega (arith, rw same at (day_count-day_of_year (pos later) m d is.2.0), rw same at e, ap (λ (y : ℕ). day_of_year (pos y) m d) same) in
    rw (year-none year days, ← same, place) refl
year_and_day-at (suc years) year later m d days is low high e =
    elim (cases_lt year later) [
      | inl before ↦
          let ends = day_count-later_year (pos year) (pos later) (omega (arith, signed_arith)) (omega (arith, signed_arith)) in
          let after = day_count-day_of_year (pos later) m d is.2.0 in
          let starts = day_count-next_year (pos year) (pos (year + 1)) (omega (arith, signed_arith)) (omega (arith, signed_arith)) in
          let first : 1 ≤ day_of_year (pos later) m d = omega (arith, is.2.0) in
          year-later years year days (omega arith)
          ∙ year_and_day-at years (year + 1) later m d (days - days_in_year (pos year)) is (omega arith) (omega arith) (omega arith)
      | inr not_before ↦
          let same : later ≡ year = omega arith in
          let bound = day_of_year_bound (pos later) m d is in
          let place : days ≡ day_of_year (pos later) m d - 1 = omega (arith, day_count-day_of_year (pos later) m d is.2.0, e, ap (λ (y : ℕ). day_count (pos y) 1 1) same) in
          year-here years year days (omega (arith, ap (λ (y : ℕ). days_in_year (pos y)) same, bound, is.2.0)) ∙ rw (← same, place) refl
    ]

-- ---- months

month-here : (months year month days : ℕ) → days < days_in_month (pos year) month → month_and_day (suc months) year month days ≡ (month, days)
unfolding month_and_day
month-here months year month days h = rw (lt-ltb days (days_in_month (pos year) month) h) refl

month-later : (months year month days : ℕ) → days_in_month (pos year) month ≤ days → month_and_day (suc months) year month days ≡ month_and_day months year (month + 1) (days - days_in_month (pos year) month)
unfolding month_and_day
month-later months year month days h = rw (le-ltb days (days_in_month (pos year) month) h) refl

month-none : (year month days : ℕ) → month_and_day zero year month days ≡ (month, days)
unfolding month_and_day
month-none year month days = refl

-- the day of this month is found in it, or in a later one
month_and_day-at : (months year month later d days : ℕ) → 1 ≤ month → month ≤ later → later ≤ month + months → 1 ≤ d → d ≤ days_in_month (pos year) later
    → days + days_of_months (pos year) (month - 1) + 1 ≡ days_of_months (pos year) (later - 1) + d
    → month_and_day months year month days ≡ (later, d - 1)
month_and_day-at zero year month later d days first low high from to e =
    let same : later ≡ month = omega arith in
    let place : days ≡ d - 1 = omega (arith, e, ap (λ (m : ℕ). days_of_months (pos year) (m - 1)) same) in
    rw (month-none year month days, ← same, place) refl
month_and_day-at (suc months) year month later d days first low high from to e =
    elim (cases_lt month later) [
      | inl before ↦
          let ends = days_of_months_mono (pos year) month (later - 1) (omega arith) in
          let more = days_of_months_more (pos year) month first in
          let next : days_of_months (pos year) (month + 1 - 1) ≡ days_of_months (pos year) month = ap (days_of_months (pos year)) (omega arith) in
          month-later months year month days (omega arith)
          ∙ month_and_day-at months year (month + 1) later d (days - days_in_month (pos year) month) (omega arith) (omega arith) (omega arith) from to (omega arith)
      | inr not_before ↦
          let same : later ≡ month = omega arith in
          let place : days ≡ d - 1 = omega (arith, e, ap (λ (m : ℕ). days_of_months (pos year) (m - 1)) same) in
          month-here months year month days (omega (arith, ap (λ (m : ℕ). days_in_month (pos year) m) same)) ∙ rw (← same, place) refl
    ]

-- ---- dates

day_count-year_zero : day_count (pos 0) 1 1 ≡ 3_652_425
day_count-year_zero = day_count-early (pos 0) 9999 1 1 refl (omega arith) (omega arith) (omega arith)

-- the days since 10000 years before 0000-01-01, by those since -9999-01-01
pub count-since : (d : Date) (days : ℕ) → epoch_day d +ℤ pos 4_371_587 ≡ pos (3_652_059 + days) → day_count d.year d.month d.day ≡ days + 3_652_425
count-since d days e = omega (arith, signed_arith, e, days_from_civil-day_count d.year d.month d.day)

-- the year of such a day is not negative
pub year-since : (y : ℤ) (m d days : ℕ) → IsCivilDate y m d → day_count y m d ≡ days + 3_652_425 → pos 0 ≤ℤ y
year-since (pos n) m d days is e = omega (arith, signed_arith)
year-since (negsuc n) m d days is e =
    absurd (omega (arith, day_count-lt_year (negsuc n) m d (pos 0) 1 1 is (omega arith) (omega (arith, signed_arith)), day_count-year_zero))

-- the text of the day that is so many days after 0000-01-01
pub day_text-is : (y m d days : ℕ) → IsCivilDate (pos y) m d → day_count (pos y) m d ≡ days + 3_652_425 → day_text days ≡ ymd_text y m d
day_text-is y m d days is e =
    let count = day_count-year_zero in
    let year : year_and_day 9999 0 days ≡ (y, day_of_year (pos y) m d - 1) = year_and_day-at 9999 0 y m d days is (omega arith) (omega (arith, signed_arith, is.0)) (omega arith) in
    let none : days_of_months (pos y) (1 - 1) ≡ 0 = days_of_months-zero (pos y) in
    let month : month_and_day 11 y 1 (day_of_year (pos y) m d - 1) ≡ (m, d - 1) =
    month_and_day-at 11 y 1 m d (day_of_year (pos y) m d - 1) (omega arith) is.1.0 (omega (arith, is.1.1)) is.2.0 is.2.1 (omega (arith, is.2.0)) in
    let place : d - 1 + 1 ≡ d = omega (arith, is.2.0) in
    ap year_text year ∙ ap (month_text y) month ∙ ap (ymd_text y m) place

-- a number that is not negative is its absolute value
pub natural_is : (z : ℤ) → pos 0 ≤ℤ z → z ≡ pos (unsigned_abs z)
natural_is (pos n) h = refl
natural_is (negsuc n) h = absurd (omega (arith, signed_arith))

-- equal parts make the same text
pub ymd_text-same : (year other_year month other_month day other_day : ℕ) → year ≡ other_year → month ≡ other_month → day ≡ other_day → ymd_text year month day ≡ ymd_text other_year other_month other_day
ymd_text-same year other_year month other_month day other_day y m d = rw (y, m, d) refl

-- ---- a date is text

record IsPlain (bytes : List ℕ) : Type 0 where
  ascii : IsAscii bytes

joined : (xs ys : List ℕ) → IsPlain xs → IsPlain ys → IsPlain (xs ++ ys)
joined xs ys x y = record { ascii = IsAscii-append xs ys x.ascii y.ascii }

one : (byte : ℕ) → byte < 128 → IsPlain (byte ∷ [])
one byte h = record { ascii = IsAscii-cons byte [] h IsAscii-nil }

pair : (n : ℕ) → IsPlain (two_digits n)
pair n = joined ((48 + n / 10 % 10) ∷ []) ((48 + n % 10) ∷ []) (one (48 + n / 10 % 10) (omega arith)) (one (48 + n % 10) (omega arith))

ymd_text-plain : (year month day : ℕ) → IsPlain (ymd_text year month day)
ymd_text-plain year month day =
    joined _ _ (pair (year / 100)) (joined _ _ (pair (year % 100)) (joined _ _ (one 45 (omega arith)) (joined _ _ (pair month) (joined _ _ (one 45 (omega arith)) (pair day)))))

time_text-plain : (second : ℕ) → IsPlain (time_text second)
time_text-plain second =
    joined _ _ (pair (second / 3600)) (joined _ _ (one 58 (omega arith)) (joined _ _ (pair (second / 60 % 60)) (joined _ _ (one 58 (omega arith)) (pair (second % 60)))))

since_text-plain : (since : ℕ) → IsPlain (since_text since)
since_text-plain since =
    joined _ _ (ymd_text-plain _ _ _) (joined _ _ (one 84 (omega arith)) (joined _ _ (time_text-plain (since % 86_400)) (one 90 (omega arith))))

pub moment_text-utf8 : (seconds : ℤ) → IsUtf8 (moment_text seconds)
moment_text-utf8 seconds = IsUtf8-from_ascii _ (since_text-plain (unsigned_abs (seconds -ℤ first_moment))).ascii
