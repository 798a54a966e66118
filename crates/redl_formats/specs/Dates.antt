-- A date: `YYYY-MM-DDThh:mm:ssZ` in UTC, on the Gregorian calendar also before it was made, or `-` (our own rule).
use Rattle.std.specs.Prelude.{ℕ, zero, suc, ◌+◌, ◌-◌, ◌/◌, ◌%◌, List, [], ◌∷◌, ◌++◌, Option, Some, None, nat_lt, if◌then◌else◌, codes, ℤ, pos, ◌-ℤ◌, unsigned_abs}
use Rattle.jiff_core.specs.Calendar.{days_in_year, days_in_month}
use Rattle.redl_stamp.specs.Moment.{first_moment}

-- the year in which the day comes that is so many days after the first of this year, and the day's place in it, from 0 on;
-- it is looked for in so many years
unfoldable pub year_and_day : ℕ → ℕ → ℕ → ℕ × ℕ
year_and_day zero year days = (year, days)
year_and_day (suc years) year days =
    if nat_lt days (days_in_year (pos year)) then (year, days) else year_and_day years (year + 1) (days - days_in_year (pos year))

-- the month of a year in which the day comes that is so many days after the first of this month, and the day's place in it, from
-- 0 on; it is looked for in so many months
unfoldable pub month_and_day : ℕ → ℕ → ℕ → ℕ → ℕ × ℕ
month_and_day zero year month days = (month, days)
month_and_day (suc months) year month days =
    if nat_lt days (days_in_month (pos year) month) then (month, days)
    else month_and_day months year (month + 1) (days - days_in_month (pos year) month)

-- the two last decimal digits
abbrev pub two_digits : ℕ → List ℕ
two_digits n = (48 + n / 10 % 10) ∷ (48 + n % 10) ∷ []

-- `YYYY-MM-DD`
abbrev pub ymd_text : ℕ → ℕ → ℕ → List ℕ
ymd_text year month day =
    two_digits (year / 100) ++ (two_digits (year % 100) ++ (codes "-" ++ (two_digits month ++ (codes "-" ++ two_digits day))))

-- the same of the day in this month that has this place, from 0 on
abbrev pub month_text : ℕ → ℕ × ℕ → List ℕ
month_text year month = ymd_text year month.0 (month.1 + 1)

-- the same of the day in this year that has this place, from 0 on
abbrev pub year_text : ℕ × ℕ → List ℕ
year_text year = month_text year.0 (month_and_day 11 year.0 1 year.1)

-- the same of the day that is so many days after 0000-01-01
abbrev pub day_text : ℕ → List ℕ
day_text days = year_text (year_and_day 9999 0 days)

-- `hh:mm:ss`, so many seconds after midnight
abbrev pub time_text : ℕ → List ℕ
time_text second = two_digits (second / 3600) ++ (codes ":" ++ (two_digits (second / 60 % 60) ++ (codes ":" ++ two_digits (second % 60))))

-- so many seconds after 0000-01-01T00:00:00Z
abbrev pub since_text : ℕ → List ℕ
since_text since = day_text (since / 86_400) ++ (codes "T" ++ (time_text (since % 86_400) ++ codes "Z"))

-- so many seconds after 1970-01-01T00:00:00Z
abbrev pub moment_text : ℤ → List ℕ
moment_text seconds = since_text (unsigned_abs (seconds -ℤ first_moment))

-- a date that may be unknown
abbrev pub date_text : Option ℤ → List ℕ
date_text None = codes "-"
date_text (Some seconds) = moment_text seconds
