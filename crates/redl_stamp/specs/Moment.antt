-- When a revision was made: a dateTime (XML Schema Part 2, 3.2.7) of a form of our own, `YYYY-MM-DDThh:mm:ss`, then a dot and
-- 1 to 9 digits or nothing, then `Z`, `+hh:mm`, `-hh:mm` or nothing. The calendar is the Gregorian one, also before it was made.
use Rattle.std.specs.Prelude.{ℕ, ◌+◌, ◌-◌, ◌*◌, Bool, true, false, ◌&&◌, ◌==◌, nat_le, List, [], ◌∷◌, length, Option, Some, None, if◌then◌else◌, codes, ℤ, pos, neg_ℤ, int_le, ◌+ℤ◌, ◌-ℤ◌, ◌*ℤ◌}
use Rattle.jiff_core.specs.Calendar.{IsBetween, days_in_month, days_from_civil}
use Rattle.redl_grammar.specs.Characters.{between}
use Rattle.redl_reading.specs.Lists.{behind, front, after}
use Rattle.redl_reading.specs.Steps.{◌>>=◌}

-- a decimal digit
abbrev pub is_decimal : ℕ → Bool
is_decimal b = between 48 57 b

-- the value of a leading digit, and the bytes after it
abbrev pub digit_at : List ℕ → Option (ℕ × List ℕ)
digit_at [] = None
digit_at (b ∷ bs) = if is_decimal b then Some (b - 48, bs) else None

-- the number that two leading digits write, and the bytes after them
abbrev pub two_digits_at : List ℕ → Option (ℕ × List ℕ)
two_digits_at bs = do
  tens ← digit_at bs
  ones ← digit_at tens.1
  Some (tens.0 * 10 + ones.0, ones.1)

-- the number that four leading digits write, and the bytes after them
abbrev pub four_digits_at : List ℕ → Option (ℕ × List ℕ)
four_digits_at bs = do
  high ← two_digits_at bs
  low ← two_digits_at high.1
  Some (high.0 * 100 + low.0, low.1)

-- the number that two digits after a leading mark write, and the bytes after them
abbrev pub marked_digits_at : List ℕ → List ℕ → Option (ℕ × List ℕ)
marked_digits_at mark bs = do
  rest ← behind mark bs
  two_digits_at rest

-- the calendar has this day
abbrev pub is_date : ℕ → ℕ → ℕ → Bool
is_date year month day = between 1 12 month && between 1 (days_in_month (pos year) month) day

-- the seconds from 1970-01-01T00:00:00 to the start of a day, negative before it
abbrev pub seconds_to : ℤ → ℤ
seconds_to days = days *ℤ pos 86_400

-- `YYYY-MM-DD`: the seconds to the start of this day, and the bytes after the day
unfoldable pub date_at : List ℕ → Option (ℤ × List ℕ)
date_at bs = do
  year ← four_digits_at bs
  month ← marked_digits_at (codes "-") year.1
  day ← marked_digits_at (codes "-") month.1
  if is_date year.0 month.0 day.0 then Some (seconds_to (days_from_civil (pos year.0) month.0 day.0), day.1) else None

-- a clock shows this hour, minute and second
abbrev pub is_time : ℕ → ℕ → ℕ → Bool
is_time hour minute second = nat_le hour 23 && nat_le minute 59 && nat_le second 59

-- `hh:mm:ss`: the seconds from midnight, and the bytes after the time
unfoldable pub time_at : List ℕ → Option (ℕ × List ℕ)
time_at bs = do
  hour ← two_digits_at bs
  minute ← marked_digits_at (codes ":") hour.1
  second ← marked_digits_at (codes ":") minute.1
  if is_time hour.0 minute.0 second.0 then Some (hour.0 * 3600 + minute.0 * 60 + second.0, second.1) else None

-- the bytes after the 1 to 9 digits that follow a dot, or all bytes without a dot
abbrev pub behind_digits : List ℕ → Option (List ℕ) → Option (List ℕ)
behind_digits bs None = Some bs
behind_digits bs (Some digits) = if between 1 9 (length (front is_decimal digits)) then Some (after is_decimal digits) else None

-- the bytes after a leading fraction of a second, a dot and 1 to 9 digits, or all bytes without one
unfoldable pub behind_fraction : List ℕ → Option (List ℕ)
behind_fraction bs = behind_digits bs (behind (codes ".") bs)

-- no byte is left
abbrev pub is_at_end : List ℕ → Bool
is_at_end [] = true
is_at_end (b ∷ bs) = false

-- a zone's `hh:mm` to the end, in seconds
unfoldable pub offset_in : List ℕ → Option ℕ
offset_in bs = do
  hours ← two_digits_at bs
  minutes ← marked_digits_at (codes ":") hours.1
  if nat_le hours.0 14 && nat_le minutes.0 59 && is_at_end minutes.1 then Some (hours.0 * 3600 + minutes.0 * 60) else None

-- seconds ahead of UTC
abbrev pub ahead : Option ℕ → Option ℤ
ahead None = None
ahead (Some seconds) = Some (pos seconds)

-- seconds behind UTC, as a negative number
abbrev pub back : Option ℕ → Option ℤ
back None = None
back (Some seconds) = Some (neg_ℤ (pos seconds))

-- a zone to the end: the seconds by which its clocks are ahead of UTC; without a zone the time is UTC
unfoldable pub zone_in : List ℕ → Option ℤ
zone_in [] = Some (pos 0)
zone_in (b ∷ bs) =
    if b == 90 && is_at_end bs then Some (pos 0)
    else if b == 43 then ahead (offset_in bs)
    else if b == 45 then back (offset_in bs)
    else None

-- 0000-01-01T00:00:00Z and 9999-12-31T23:59:59Z
abbrev pub first_moment : ℤ
first_moment = neg_ℤ (pos 62_167_219_200)

-- 9999-12-31T23:59:59Z
abbrev pub last_moment : ℤ
last_moment = pos 253_402_300_799

-- the year in UTC is 0000 to 9999
abbrev pub IsMoment : ℤ → Type 0
IsMoment seconds = IsBetween first_moment last_moment seconds

-- the same as a test
abbrev pub is_moment : ℤ → Bool
is_moment seconds = int_le first_moment seconds && int_le seconds last_moment

-- the seconds, if they are in these years
abbrev pub within_years : ℤ → Option ℤ
within_years seconds = if is_moment seconds then Some seconds else None

-- the seconds from 1970-01-01T00:00:00Z to the moment that a text names
unfoldable pub moment_of : List ℕ → Option ℤ
moment_of text = do
  date ← date_at text
  rest ← behind (codes "T") date.1
  time ← time_at rest
  zone ← behind_fraction time.1
  ahead ← zone_in zone
  within_years ((date.0 +ℤ pos time.0) -ℤ ahead)
