-- What has the form of a moment is read as one.
use Rattle.std.proofs.Common.{◌≡◌, ◌∙◌, refl, ap, sym, ℕ, ◌+◌, ◌-◌, ◌*◌, ◌≤◌, ◌&&◌, nat_le, Bool, true, false, List, [], ◌∷◌, ◌++◌, length, append_assoc, append-nil, Some, None, ℤ, pos, ◌+ℤ◌, ◌-ℤ◌, int_le, codes, arith, if◌then◌else◌}
use lib.Dec.{T}
use Rattle.std.proofs.lemmas.Bool.{and_parts, and_from}
use Rattle.jiff_core.specs.Calendar.{days_from_civil}
use Rattle.redl_grammar.specs.Characters.{between}
use Rattle.redl_reading.specs.Lists.{behind, after}
use Rattle.redl_reading.specs.Steps.{◌>>=◌}
use Rattle.redl_reading.proofs.Runs.{stops, front_again, after_again}
use Rattle.redl_reading.proofs.Words.{behind_again}
use Rattle.redl_stamp.specs.Moment.{is_decimal, digit_at, two_digits_at, four_digits_at, marked_digits_at, seconds_to, date_at, time_at, behind_digits, behind_fraction, offset_in, ahead, back, zone_in, first_moment, last_moment, IsMoment, within_years, moment_of}
use Rattle.redl_sound.specs.Form.{WritesNumber, NamesDay, NamesTime, IsFraction, nothing, dotted, NamesOffset, NamesZone, none, utc, east, west, Names}
use Rattle.redl_sound.proofs.Stamps.Taken.{both_of, hundreds, from_day, from_month, from_year, from_second, from_minute, from_hour, from_minutes, from_hours, from_zone, from_fraction, from_time, from_rest, from_date}

-- ---- digits

digit-again : (b : ℕ) (rest : List ℕ) → is_decimal b ≡ true → digit_at (b ∷ rest) ≡ Some (b - 48, rest)
digit-again b rest e = ap (λ t. if t then Some (b - 48, rest) else None) e

two-of : (a b : ℕ) (rest : List ℕ) → is_decimal a ≡ true → is_decimal b ≡ true → two_digits_at (a ∷ b ∷ rest) ≡ Some ((a - 48) * 10 + (b - 48), rest)
two-of a b rest d e =
    ap (λ o. o >>= (λ tens. digit_at tens.1 >>= both_of tens)) (digit-again a (b ∷ rest) d)
    ∙ ap (λ o. o >>= both_of (a - 48, b ∷ rest)) (digit-again b rest e)

two-again : (text : List ℕ) (number : ℕ) (rest : List ℕ) → WritesNumber 2 text number → two_digits_at (text ++ rest) ≡ Some (number, rest)
two-again [] number rest w = absurd (omega (arith, w.size))
two-again (a ∷ []) number rest w = absurd (omega (arith, w.size))
two-again (a ∷ b ∷ c ∷ more) number rest w = absurd (omega (arith, w.size))
two-again (a ∷ b ∷ []) number rest w =
    let first = and_parts (is_decimal a) (is_decimal b && true) w.digits in
    let second = and_parts (is_decimal b) true first.1 in
    let value : (a - 48) * 10 + (b - 48) ≡ number = omega (arith, w.value) in
    two-of a b rest first.0 second.0 ∙ ap (λ n. Some (n, rest)) value

four-again : (text : List ℕ) (number : ℕ) (rest : List ℕ) → WritesNumber 4 text number → four_digits_at (text ++ rest) ≡ Some (number, rest)
four-again [] number rest w = absurd (omega (arith, w.size))
four-again (a ∷ []) number rest w = absurd (omega (arith, w.size))
four-again (a ∷ b ∷ []) number rest w = absurd (omega (arith, w.size))
four-again (a ∷ b ∷ c ∷ []) number rest w = absurd (omega (arith, w.size))
four-again (a ∷ b ∷ c ∷ d ∷ e ∷ more) number rest w = absurd (omega (arith, w.size))
four-again (a ∷ b ∷ c ∷ d ∷ []) number rest w =
    let first = and_parts (is_decimal a) _ w.digits in
    let second = and_parts (is_decimal b) _ first.1 in
    let third = and_parts (is_decimal c) _ second.1 in
    let fourth = and_parts (is_decimal d) true third.1 in
    let value : ((a - 48) * 10 + (b - 48)) * 100 + ((c - 48) * 10 + (d - 48)) ≡ number = omega (arith, w.value) in
    ap (λ o. o >>= (λ high. two_digits_at high.1 >>= hundreds high)) (two-of a b (c ∷ d ∷ rest) first.0 second.0)
    ∙ ap (λ o. o >>= hundreds ((a - 48) * 10 + (b - 48), c ∷ d ∷ rest)) (two-of c d rest third.0 fourth.0)
    ∙ ap (λ n. Some (n, rest)) value

marked-again : (mark text : List ℕ) (number : ℕ) (rest : List ℕ) → WritesNumber 2 text number → marked_digits_at mark (mark ++ (text ++ rest)) ≡ Some (number, rest)
marked-again mark text number rest w = ap (λ o. o >>= two_digits_at) (behind_again mark (text ++ rest)) ∙ two-again text number rest w

-- five texts and a rest
in-front : (a m b n c rest : List ℕ) → (a ++ (m ++ (b ++ (n ++ c)))) ++ rest ≡ a ++ (m ++ (b ++ (n ++ (c ++ rest))))
in-front a m b n c rest =
    append_assoc a (m ++ (b ++ (n ++ c))) rest
    ∙ ap (λ r. a ++ r) (append_assoc m (b ++ (n ++ c)) rest ∙ ap (λ r. m ++ r) (append_assoc b (n ++ c) rest ∙ ap (λ r. b ++ r) (append_assoc n c rest)))

-- ---- a day and a time

pub day-again : (text : List ℕ) (seconds : ℤ) (rest : List ℕ) → NamesDay text seconds → date_at (text ++ rest) ≡ Some (seconds, rest)
unfolding date_at
day-again text seconds rest n =
    let later = n.day_text ++ rest in
    ap (λ t. four_digits_at (t ++ rest) >>= from_year) n.whole
    ∙ ap (λ t. four_digits_at t >>= from_year) (in-front n.year_text (codes "-") n.month_text (codes "-") n.day_text rest)
    ∙ ap (λ o. o >>= from_year) (four-again n.year_text n.year (codes "-" ++ (n.month_text ++ (codes "-" ++ later))) n.is_year)
    ∙ ap (λ o. o >>= from_month n.year) (marked-again (codes "-") n.month_text n.month (codes "-" ++ later) n.is_month)
    ∙ ap (λ o. o >>= from_day n.year n.month) (marked-again (codes "-") n.day_text n.day rest n.is_day)
    ∙ ap (λ b. if b then Some (seconds_to (days_from_civil (pos n.year) n.month n.day), rest) else None) n.calendar
    ∙ ap (λ s. Some (s, rest)) (sym n.value)

pub time-again : (text : List ℕ) (seconds : ℕ) (rest : List ℕ) → NamesTime text seconds → time_at (text ++ rest) ≡ Some (seconds, rest)
unfolding time_at
time-again text seconds rest n =
    let later = n.second_text ++ rest in
    ap (λ t. two_digits_at (t ++ rest) >>= from_hour) n.whole
    ∙ ap (λ t. two_digits_at t >>= from_hour) (in-front n.hour_text (codes ":") n.minute_text (codes ":") n.second_text rest)
    ∙ ap (λ o. o >>= from_hour) (two-again n.hour_text n.hour (codes ":" ++ (n.minute_text ++ (codes ":" ++ later))) n.is_hour)
    ∙ ap (λ o. o >>= from_minute n.hour) (marked-again (codes ":") n.minute_text n.minute (codes ":" ++ later) n.is_minute)
    ∙ ap (λ o. o >>= from_second n.hour n.minute) (marked-again (codes ":") n.second_text n.second rest n.is_second)
    ∙ ap (λ b. if b then Some (n.hour * 3600 + n.minute * 60 + n.second, rest) else None) n.clock
    ∙ ap (λ s. Some (s, rest)) (sym n.value)

-- ---- a zone

le-again : (a b : ℕ) → a ≤ b → nat_le a b ≡ true
le-again a b h = grind (arith, h)

offset-again : (text : List ℕ) (seconds : ℕ) → NamesOffset text seconds → offset_in text ≡ Some seconds
unfolding offset_in
offset-again text seconds n =
    ap (λ t. two_digits_at t >>= from_hours) n.whole
    ∙ ap (λ o. o >>= from_hours) (two-again n.hours_text n.hours (codes ":" ++ n.minutes_text) n.is_hours)
    ∙ ap (λ t. marked_digits_at (codes ":") (codes ":" ++ t) >>= from_minutes n.hours) (sym (append-nil n.minutes_text))
    ∙ ap (λ o. o >>= from_minutes n.hours) (marked-again (codes ":") n.minutes_text n.minutes [] n.is_minutes)
    ∙ ap (λ b. if b && nat_le n.minutes 59 && true then Some (n.hours * 3600 + n.minutes * 60) else None) (le-again n.hours 14 n.few_hours)
    ∙ ap (λ b. if b && true then Some (n.hours * 3600 + n.minutes * 60) else None) (le-again n.minutes 59 n.few_minutes)
    ∙ ap Some (sym n.value)

pub zone-again : (text : List ℕ) (z : ℤ) → NamesZone text z → zone_in text ≡ Some z
unfolding zone_in
zone-again text z (none is value) = ap zone_in is ∙ ap Some (sym value)
zone-again text z (utc is value) = ap zone_in is ∙ ap Some (sym value)
zone-again text z (east offset seconds is names value) = ap zone_in is ∙ ap ahead (offset-again offset seconds names) ∙ ap Some (sym value)
zone-again text z (west offset seconds is names value) = ap zone_in is ∙ ap back (offset-again offset seconds names) ∙ ap Some (sym value)

-- no zone begins with a digit or a dot
zone-stops : (text : List ℕ) (z : ℤ) → NamesZone text z → stops is_decimal text ≡ true
zone-stops text z (none is value) = ap (stops is_decimal) is
zone-stops text z (utc is value) = ap (stops is_decimal) is
zone-stops text z (east offset seconds is names value) = ap (stops is_decimal) is
zone-stops text z (west offset seconds is names value) = ap (stops is_decimal) is

zone-no-dot : (text : List ℕ) (z : ℤ) → NamesZone text z → behind (codes ".") text ≡ None
zone-no-dot text z (none is value) = ap (behind (codes ".")) is
zone-no-dot text z (utc is value) = ap (behind (codes ".")) is
zone-no-dot text z (east offset seconds is names value) = ap (behind (codes ".")) is
zone-no-dot text z (west offset seconds is names value) = ap (behind (codes ".")) is

-- ---- a fraction

pub fraction-again : (text zone : List ℕ) (z : ℤ) → NamesZone zone z → IsFraction text → behind_fraction (text ++ zone) ≡ Some zone
unfolding behind_fraction
fraction-again text zone z names (nothing is) = ap (λ t. behind_digits (t ++ zone) (behind (codes ".") (t ++ zone))) is ∙ ap (behind_digits zone) (zone-no-dot zone z names)
fraction-again text zone z names (dotted digits is all some few) =
    ap (λ t. behind_digits (t ++ zone) (behind (codes ".") (t ++ zone))) is
    ∙ ap (behind_digits (codes "." ++ (digits ++ zone))) (behind_again (codes ".") (digits ++ zone))
    ∙ ap (λ f. if between 1 9 (length f) then Some (after is_decimal (digits ++ zone)) else None) (front_again is_decimal digits zone all (zone-stops zone z names))
    ∙ ap (λ b. if b then Some (after is_decimal (digits ++ zone)) else None) (and_from (nat_le 1 (length digits)) (nat_le (length digits) 9) (le-again 1 (length digits) some) (le-again (length digits) 9 few))
    ∙ ap Some (after_again is_decimal digits zone all (zone-stops zone z names))

-- ---- a moment

true-of : (b : Bool) → T b → b ≡ true
true-of true t = refl
true-of false t = absurd t

years-again : (seconds : ℤ) → IsMoment seconds → within_years seconds ≡ Some seconds
years-again seconds h =
    ap (λ b. if b then Some seconds else None)
    (and_from (int_le first_moment seconds) (int_le seconds last_moment) (true-of (int_le first_moment seconds) h.0.le) (true-of (int_le seconds last_moment) h.1.le))

pub moment-again : (text : List ℕ) (seconds : ℤ) → Names text seconds → moment_of text ≡ Some seconds
unfolding moment_of
moment-again text seconds n =
    let whole = (n.day +ℤ pos n.time) -ℤ n.ahead in
    ap (λ t. date_at t >>= from_date) n.whole
    ∙ ap (λ o. o >>= from_date) (day-again n.day_text n.day (codes "T" ++ (n.time_text ++ (n.fraction_text ++ n.zone_text))) n.is_day)
    ∙ ap (λ o. o >>= from_rest n.day) (behind_again (codes "T") (n.time_text ++ (n.fraction_text ++ n.zone_text)))
    ∙ ap (λ o. o >>= from_time n.day) (time-again n.time_text n.time (n.fraction_text ++ n.zone_text) n.is_time)
    ∙ ap (λ o. o >>= from_fraction n.day n.time) (fraction-again n.fraction_text n.zone_text n.ahead n.is_zone n.is_fraction)
    ∙ ap (λ o. o >>= from_zone n.day n.time) (zone-again n.zone_text n.ahead n.is_zone)
    ∙ ap within_years (sym n.value)
    ∙ years-again seconds n.in_years
