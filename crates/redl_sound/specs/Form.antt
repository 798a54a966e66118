-- The form of a moment, as a relation between a text and the seconds that it names (XML Schema Part 2, 3.2.7; the form is our own
-- rule): `YYYY-MM-DDThh:mm:ss`, then a dot and 1 to 9 digits or nothing, then `Z`, `+hh:mm`, `-hh:mm` or nothing.
use Rattle.std.specs.Prelude.{◌≡◌, ◌≤◌, ◌+◌, ◌-◌, ◌*◌, ℕ, ℤ, pos, neg_ℤ, ◌+ℤ◌, ◌-ℤ◌, true, List, [], ◌∷◌, ◌++◌, length, codes}
use Rattle.std.specs.List.{list_all}
use Rattle.jiff_core.specs.Calendar.{days_from_civil}
use Rattle.redl_stamp.specs.Moment.{is_decimal, is_date, is_time, seconds_to, IsMoment}

-- ---- numbers

-- the number that digits write, behind others that write this one
abbrev pub value_from : ℕ → List ℕ → ℕ
value_from so_far [] = so_far
value_from so_far (digit ∷ digits) = value_from (so_far * 10 + (digit - 48)) digits

-- the text is so many decimal digits, which write the number
pub record WritesNumber (many : ℕ) (text : List ℕ) (number : ℕ) : Type 0 where
  pub size : length text ≡ many
  pub digits : list_all is_decimal text ≡ true
  pub value : number ≡ value_from 0 text

-- ---- a day, a time, a fraction and a zone

-- `YYYY-MM-DD`, a day of the calendar: the seconds from 1970-01-01T00:00:00 to its start
pub record NamesDay (text : List ℕ) (seconds : ℤ) : Type 0 where
  pub year : ℕ
  pub month : ℕ
  pub day : ℕ
  pub year_text : List ℕ
  pub month_text : List ℕ
  pub day_text : List ℕ
  pub whole : text ≡ year_text ++ (codes "-" ++ (month_text ++ (codes "-" ++ day_text)))
  pub is_year : WritesNumber 4 year_text year
  pub is_month : WritesNumber 2 month_text month
  pub is_day : WritesNumber 2 day_text day
  pub calendar : is_date year month day ≡ true
  pub value : seconds ≡ seconds_to (days_from_civil (pos year) month day)

-- `hh:mm:ss`, a time of a clock: the seconds from midnight
pub record NamesTime (text : List ℕ) (seconds : ℕ) : Type 0 where
  pub hour : ℕ
  pub minute : ℕ
  pub second : ℕ
  pub hour_text : List ℕ
  pub minute_text : List ℕ
  pub second_text : List ℕ
  pub whole : text ≡ hour_text ++ (codes ":" ++ (minute_text ++ (codes ":" ++ second_text)))
  pub is_hour : WritesNumber 2 hour_text hour
  pub is_minute : WritesNumber 2 minute_text minute
  pub is_second : WritesNumber 2 second_text second
  pub clock : is_time hour minute second ≡ true
  pub value : seconds ≡ hour * 3600 + minute * 60 + second

-- a fraction of a second, which is left aside: nothing, or a dot and 1 to 9 digits
pub data IsFraction (text : List ℕ) : Type 0 where
  nothing : text ≡ [] → IsFraction text
  dotted : (digits : List ℕ) → text ≡ codes "." ++ digits → list_all is_decimal digits ≡ true → 1 ≤ length digits → length digits ≤ 9 → IsFraction text

-- `hh:mm`, at most 14 hours and 59 minutes, in seconds
pub record NamesOffset (text : List ℕ) (seconds : ℕ) : Type 0 where
  pub hours : ℕ
  pub minutes : ℕ
  pub hours_text : List ℕ
  pub minutes_text : List ℕ
  pub whole : text ≡ hours_text ++ (codes ":" ++ minutes_text)
  pub is_hours : WritesNumber 2 hours_text hours
  pub is_minutes : WritesNumber 2 minutes_text minutes
  pub few_hours : hours ≤ 14
  pub few_minutes : minutes ≤ 59
  pub value : seconds ≡ hours * 3600 + minutes * 60

-- The seconds by which the clocks of a zone are ahead of UTC. Without a zone the time is UTC.
pub data NamesZone (text : List ℕ) (ahead : ℤ) : Type 0 where
  none : text ≡ [] → ahead ≡ pos 0 → NamesZone text ahead
  utc : text ≡ codes "Z" → ahead ≡ pos 0 → NamesZone text ahead
  east : (offset : List ℕ) (seconds : ℕ) → text ≡ codes "+" ++ offset → NamesOffset offset seconds → ahead ≡ pos seconds → NamesZone text ahead
  west : (offset : List ℕ) (seconds : ℕ) → text ≡ codes "-" ++ offset → NamesOffset offset seconds → ahead ≡ neg_ℤ (pos seconds) → NamesZone text ahead

-- ---- a moment

-- the text names the moment that lies so many seconds after 1970-01-01T00:00:00Z, or before it where they are negative
pub record Names (text : List ℕ) (seconds : ℤ) : Type 0 where
  pub day_text : List ℕ
  pub time_text : List ℕ
  pub fraction_text : List ℕ
  pub zone_text : List ℕ
  pub day : ℤ
  pub time : ℕ
  pub ahead : ℤ
  pub whole : text ≡ day_text ++ (codes "T" ++ (time_text ++ (fraction_text ++ zone_text)))
  pub is_day : NamesDay day_text day
  pub is_time : NamesTime time_text time
  pub is_fraction : IsFraction fraction_text
  pub is_zone : NamesZone zone_text ahead
  pub value : seconds ≡ (day +ℤ pos time) -ℤ ahead
  pub in_years : IsMoment seconds
