-- What is read as a moment has the form of one.
use Rattle.std.proofs.Common.{◌≡◌, ◌∙◌, refl, ap, sym, subst, ℕ, ◌+◌, ◌-◌, ◌*◌, ◌≤◌, ◌==◌, ◌&&◌, nat_le, Bool, true, false, List, [], ◌∷◌, ◌++◌, length, append_assoc, Option, Some, None, ℤ, pos, neg_ℤ, ◌≤ℤ◌, ◌+ℤ◌, ◌-ℤ◌, int_le, codes, arith, if◌then◌else◌}
use lib.Signed.{le_z_yes}
use lib.Dec.{T}
use Rattle.std.proofs.lemmas.Bool.{and_parts, and_from, eqb-true}
use Rattle.std.proofs.lemmas.Option.{same_Some}
use Rattle.jiff_core.specs.Calendar.{days_from_civil}
use Rattle.redl_grammar.specs.Characters.{between}
use Rattle.redl_reading.specs.Lists.{behind, front, after}
use Rattle.redl_reading.specs.Steps.{◌>>=◌}
use Rattle.redl_reading.proofs.Runs.{front-after, front_passes}
use Rattle.redl_reading.proofs.Steps.{bind_some}
use Rattle.redl_reading.proofs.Words.{behind_takes}
use Rattle.redl_stamp.specs.Moment.{is_decimal, digit_at, two_digits_at, four_digits_at, marked_digits_at, is_date, seconds_to, date_at, is_time, time_at, behind_digits, behind_fraction, is_at_end, offset_in, ahead, back, zone_in, first_moment, last_moment, is_moment, IsMoment, within_years, moment_of}
use Rattle.redl_sound.specs.Form.{WritesNumber, NamesDay, NamesTime, IsFraction, nothing, dotted, NamesOffset, NamesZone, none, utc, east, west, Names}

-- ---- digits

record Digit (bs : List ℕ) (x : ℕ × List ℕ) : Type 0 where
  pub digit : ℕ
  pub splits : bs ≡ digit ∷ x.1
  pub is_digit : is_decimal digit ≡ true
  pub value : x.0 ≡ digit - 48

digit-taken : (bs : List ℕ) (x : ℕ × List ℕ) → digit_at bs ≡ Some x → Digit bs x
digit-taken [] x e = absurd (cc)
digit-taken (b ∷ bs) x e = by (is_decimal b) refl e
  where
    by : (t : Bool) → is_decimal b ≡ t → (if t then Some (b - 48, bs) else None) ≡ Some x → Digit (b ∷ bs) x
    by false d e = absurd (cc)
    by true d e =
        let is : (b - 48, bs) ≡ x = cc in
        record { digit = b; splits = ap (λ (y : ℕ × List ℕ). b ∷ y.1) is; is_digit = d; value = ap (λ (y : ℕ × List ℕ). y.0) (sym is) }

-- two digits, and what they write
record Two (bs : List ℕ) (x : ℕ × List ℕ) : Type 0 where
  pub a : ℕ
  pub b : ℕ
  pub splits : bs ≡ a ∷ b ∷ x.1
  pub a_digit : is_decimal a ≡ true
  pub b_digit : is_decimal b ≡ true
  pub value : x.0 ≡ (a - 48) * 10 + (b - 48)

abbrev pub both_of : ℕ × List ℕ → ℕ × List ℕ → Option (ℕ × List ℕ)
both_of tens ones = Some (tens.0 * 10 + ones.0, ones.1)

two-taken : (bs : List ℕ) (x : ℕ × List ℕ) → two_digits_at bs ≡ Some x → Two bs x
two-taken bs x e =
    let first = bind_some (digit_at bs) (λ tens. digit_at tens.1 >>= both_of tens) x e in
    let second = bind_some (digit_at first.0.1) (both_of first.0) x first.2 in
    let tens = digit-taken bs first.0 first.1 in
    let ones = digit-taken first.0.1 second.0 second.1 in
    let is = same_Some (first.0.0 * 10 + second.0.0, second.0.1) x second.2 in
    record {
      a = tens.digit;
      b = ones.digit;
      splits = tens.splits ∙ ap (λ r. tens.digit ∷ r) ones.splits ∙ ap (λ (y : ℕ × List ℕ). tens.digit ∷ ones.digit ∷ y.1) is;
      a_digit = tens.is_digit;
      b_digit = ones.is_digit;
      value = sym (ap (λ (y : ℕ × List ℕ). y.0) is) ∙ ap (λ n. n * 10 + second.0.0) tens.value ∙ ap (λ n. (tens.digit - 48) * 10 + n) ones.value;
    }

two-writes : (bs : List ℕ) (x : ℕ × List ℕ) (two : Two bs x) → WritesNumber 2 (two.a ∷ two.b ∷ []) x.0
two-writes bs x two = record {
  size = refl;
  digits = and_from (is_decimal two.a) (is_decimal two.b && true) two.a_digit (and_from (is_decimal two.b) true two.b_digit refl);
  value = omega (arith, two.value);
}

-- four digits
record Four (bs : List ℕ) (x : ℕ × List ℕ) : Type 0 where
  pub text : List ℕ
  pub splits : bs ≡ text ++ x.1
  pub writes : WritesNumber 4 text x.0

abbrev pub hundreds : ℕ × List ℕ → ℕ × List ℕ → Option (ℕ × List ℕ)
hundreds high low = Some (high.0 * 100 + low.0, low.1)

four-taken : (bs : List ℕ) (x : ℕ × List ℕ) → four_digits_at bs ≡ Some x → Four bs x
four-taken bs x e =
    let first = bind_some (two_digits_at bs) (λ high. two_digits_at high.1 >>= hundreds high) x e in
    let second = bind_some (two_digits_at first.0.1) (hundreds first.0) x first.2 in
    let high = two-taken bs first.0 first.1 in
    let low = two-taken first.0.1 second.0 second.1 in
    let is = same_Some (first.0.0 * 100 + second.0.0, second.0.1) x second.2 in
    record {
      text = high.a ∷ high.b ∷ low.a ∷ low.b ∷ [];
      splits = high.splits ∙ ap (λ r. high.a ∷ high.b ∷ r) low.splits ∙ ap (λ (y : ℕ × List ℕ). high.a ∷ high.b ∷ low.a ∷ low.b ∷ y.1) is;
      writes = record {
        size = refl;
        digits = and_from (is_decimal high.a) _ high.a_digit (and_from (is_decimal high.b) _ high.b_digit
            (and_from (is_decimal low.a) _ low.a_digit (and_from (is_decimal low.b) true low.b_digit refl)));
        value = omega (arith, ap (λ (y : ℕ × List ℕ). y.0) is, high.value, low.value);
      };
    }

-- two digits after a mark
record Marked (mark bs : List ℕ) (x : ℕ × List ℕ) : Type 0 where
  pub rest : List ℕ
  pub splits : bs ≡ mark ++ rest
  pub two : Two rest x

marked-taken : (mark bs : List ℕ) (x : ℕ × List ℕ) → marked_digits_at mark bs ≡ Some x → Marked mark bs x
marked-taken mark bs x e =
    let first = bind_some (behind mark bs) two_digits_at x e in
    record { rest = first.0; splits = behind_takes mark bs first.0 first.1; two = two-taken first.0 x first.2 }

-- ---- a day

pub record Day (bs : List ℕ) (x : ℤ × List ℕ) : Type 0 where
  pub text : List ℕ
  pub splits : bs ≡ text ++ x.1
  pub names : NamesDay text x.0

abbrev pub from_day : ℕ → ℕ → ℕ × List ℕ → Option (ℤ × List ℕ)
from_day year month day = if is_date year month day.0 then Some (seconds_to (days_from_civil (pos year) month day.0), day.1) else None

abbrev pub from_month : ℕ → ℕ × List ℕ → Option (ℤ × List ℕ)
from_month year month = marked_digits_at (codes "-") month.1 >>= from_day year month.0

abbrev pub from_year : ℕ × List ℕ → Option (ℤ × List ℕ)
from_year year = marked_digits_at (codes "-") year.1 >>= from_month year.0

pub day-taken : (bs : List ℕ) (x : ℤ × List ℕ) → date_at bs ≡ Some x → Day bs x
unfolding date_at
day-taken bs x e =
    let y = bind_some (four_digits_at bs) from_year x e in
    let m = bind_some (marked_digits_at (codes "-") y.0.1) (from_month y.0.0) x y.2 in
    let d = bind_some (marked_digits_at (codes "-") m.0.1) (from_day y.0.0 m.0.0) x m.2 in
    by y.0 m.0 d.0 (four-taken bs y.0 y.1) (marked-taken (codes "-") y.0.1 m.0 m.1) (marked-taken (codes "-") m.0.1 d.0 d.1) (is_date y.0.0 m.0.0 d.0.0) refl d.2
  where
    by : (y m d : ℕ × List ℕ) → Four bs y → Marked (codes "-") y.1 m → Marked (codes "-") m.1 d → (b : Bool) → is_date y.0 m.0 d.0 ≡ b
        → (if b then Some (seconds_to (days_from_civil (pos y.0) m.0 d.0), d.1) else None) ≡ Some x → Day bs x
    by y m d year month day false is e = absurd (cc)
    by y m d year month day true is e =
        let done : (seconds_to (days_from_civil (pos y.0) m.0 d.0), d.1) ≡ x = cc in
        let month_text = month.two.a ∷ month.two.b ∷ [] in
        let day_text = day.two.a ∷ day.two.b ∷ [] in
        record {
          text = year.text ++ (codes "-" ++ (month_text ++ (codes "-" ++ day_text)));
          splits =
              year.splits ∙ ap (λ r. year.text ++ r)
              (month.splits ∙ ap (λ r. codes "-" ++ r)
              (month.two.splits ∙ ap (λ r. month_text ++ r)
              (day.splits ∙ ap (λ r. codes "-" ++ r) (day.two.splits ∙ ap (λ (z : ℤ × List ℕ). day_text ++ z.1) done))))
              ∙ sym (append_assoc year.text (codes "-" ++ (month_text ++ (codes "-" ++ day_text))) x.1);
          names = record {
            year = y.0;
            month = m.0;
            day = d.0;
            year_text = year.text;
            month_text = month_text;
            day_text = day_text;
            whole = refl;
            is_year = year.writes;
            is_month = two-writes month.rest m month.two;
            is_day = two-writes day.rest d day.two;
            calendar = is;
            value = ap (λ (z : ℤ × List ℕ). z.0) (sym done);
          };
        }

-- ---- a time

pub record Time (bs : List ℕ) (x : ℕ × List ℕ) : Type 0 where
  pub text : List ℕ
  pub splits : bs ≡ text ++ x.1
  pub names : NamesTime text x.0

abbrev pub from_second : ℕ → ℕ → ℕ × List ℕ → Option (ℕ × List ℕ)
from_second hour minute second = if is_time hour minute second.0 then Some (hour * 3600 + minute * 60 + second.0, second.1) else None

abbrev pub from_minute : ℕ → ℕ × List ℕ → Option (ℕ × List ℕ)
from_minute hour minute = marked_digits_at (codes ":") minute.1 >>= from_second hour minute.0

abbrev pub from_hour : ℕ × List ℕ → Option (ℕ × List ℕ)
from_hour hour = marked_digits_at (codes ":") hour.1 >>= from_minute hour.0

pub time-taken : (bs : List ℕ) (x : ℕ × List ℕ) → time_at bs ≡ Some x → Time bs x
unfolding time_at
time-taken bs x e =
    let h = bind_some (two_digits_at bs) from_hour x e in
    let m = bind_some (marked_digits_at (codes ":") h.0.1) (from_minute h.0.0) x h.2 in
    let s = bind_some (marked_digits_at (codes ":") m.0.1) (from_second h.0.0 m.0.0) x m.2 in
    by h.0 m.0 s.0 (two-taken bs h.0 h.1) (marked-taken (codes ":") h.0.1 m.0 m.1) (marked-taken (codes ":") m.0.1 s.0 s.1) (is_time h.0.0 m.0.0 s.0.0) refl s.2
  where
    by : (h m s : ℕ × List ℕ) → Two bs h → Marked (codes ":") h.1 m → Marked (codes ":") m.1 s → (b : Bool) → is_time h.0 m.0 s.0 ≡ b
        → (if b then Some (h.0 * 3600 + m.0 * 60 + s.0, s.1) else None) ≡ Some x → Time bs x
    by h m s hour minute second false is e = absurd (cc)
    by h m s hour minute second true is e =
        let done : (h.0 * 3600 + m.0 * 60 + s.0, s.1) ≡ x = cc in
        let hour_text = hour.a ∷ hour.b ∷ [] in
        let minute_text = minute.two.a ∷ minute.two.b ∷ [] in
        let second_text = second.two.a ∷ second.two.b ∷ [] in
        record {
          text = hour_text ++ (codes ":" ++ (minute_text ++ (codes ":" ++ second_text)));
          splits =
              hour.splits ∙ ap (λ r. hour_text ++ r)
              (minute.splits ∙ ap (λ r. codes ":" ++ r)
              (minute.two.splits ∙ ap (λ r. minute_text ++ r)
              (second.splits ∙ ap (λ r. codes ":" ++ r) (second.two.splits ∙ ap (λ (z : ℕ × List ℕ). second_text ++ z.1) done))));
          names = record {
            hour = h.0;
            minute = m.0;
            second = s.0;
            hour_text = hour_text;
            minute_text = minute_text;
            second_text = second_text;
            whole = refl;
            is_hour = two-writes bs h hour;
            is_minute = two-writes minute.rest m minute.two;
            is_second = two-writes second.rest s second.two;
            clock = is;
            value = ap (λ (z : ℕ × List ℕ). z.0) (sym done);
          };
        }

-- ---- a fraction

le-true : (a b : ℕ) → nat_le a b ≡ true → a ≤ b
le-true a b e = grind (arith, e)

between-bounds : (low high n : ℕ) → between low high n ≡ true → (low ≤ n) × (n ≤ high)
between-bounds low high n e = let parts = and_parts (nat_le low n) (nat_le n high) e in (le-true low n parts.0, le-true n high parts.1)

pub record Fraction (bs rest : List ℕ) : Type 0 where
  pub text : List ℕ
  pub splits : bs ≡ text ++ rest
  pub is : IsFraction text

pub fraction-taken : (bs rest : List ℕ) → behind_fraction bs ≡ Some rest → Fraction bs rest
unfolding behind_fraction
fraction-taken bs rest e = by (behind (codes ".") bs) refl e
  where
    by : (o : Option (List ℕ)) → behind (codes ".") bs ≡ o → behind_digits bs o ≡ Some rest → Fraction bs rest
    by None is e = let same : bs ≡ rest = cc in record { text = []; splits = same; is = nothing refl }
    by (Some digits) is e = at (between 1 9 (length (front is_decimal digits))) refl e
      where
        at : (b : Bool) → between 1 9 (length (front is_decimal digits)) ≡ b → (if b then Some (after is_decimal digits) else None) ≡ Some rest → Fraction bs rest
        at false few e = absurd (cc)
        at true few e =
            let same : after is_decimal digits ≡ rest = cc in
            let bounds = between-bounds 1 9 (length (front is_decimal digits)) few in
            record {
              text = codes "." ++ front is_decimal digits;
              splits = behind_takes (codes ".") bs digits is ∙ ap (λ r. codes "." ++ r) (sym (front-after is_decimal digits) ∙ ap (λ r. front is_decimal digits ++ r) same);
              is = dotted (front is_decimal digits) refl (front_passes is_decimal digits) bounds.0 bounds.1;
            }

-- ---- a zone

at-end : (bs : List ℕ) → is_at_end bs ≡ true → bs ≡ []
at-end [] e = refl
at-end (b ∷ bs) e = absurd (cc)

abbrev pub from_minutes : ℕ → ℕ × List ℕ → Option ℕ
from_minutes hours minutes = if nat_le hours 14 && nat_le minutes.0 59 && is_at_end minutes.1 then Some (hours * 3600 + minutes.0 * 60) else None

abbrev pub from_hours : ℕ × List ℕ → Option ℕ
from_hours hours = marked_digits_at (codes ":") hours.1 >>= from_minutes hours.0

offset-taken : (bs : List ℕ) (seconds : ℕ) → offset_in bs ≡ Some seconds → NamesOffset bs seconds
unfolding offset_in
offset-taken bs seconds e =
    let h = bind_some (two_digits_at bs) from_hours seconds e in
    let m = bind_some (marked_digits_at (codes ":") h.0.1) (from_minutes h.0.0) seconds h.2 in
    by h.0 m.0 (two-taken bs h.0 h.1) (marked-taken (codes ":") h.0.1 m.0 m.1) (nat_le h.0.0 14 && nat_le m.0.0 59 && is_at_end m.0.1) refl m.2
  where
    by : (h m : ℕ × List ℕ) → Two bs h → Marked (codes ":") h.1 m → (b : Bool) → (nat_le h.0 14 && nat_le m.0 59 && is_at_end m.1) ≡ b
        → (if b then Some (h.0 * 3600 + m.0 * 60) else None) ≡ Some seconds → NamesOffset bs seconds
    by h m hours minutes false is e = absurd (cc)
    by h m hours minutes true is e =
        let done : h.0 * 3600 + m.0 * 60 ≡ seconds = cc in
        let outer = and_parts (nat_le h.0 14 && nat_le m.0 59) (is_at_end m.1) is in
        let inner = and_parts (nat_le h.0 14) (nat_le m.0 59) outer.0 in
        let hours_text = hours.a ∷ hours.b ∷ [] in
        let minutes_text = minutes.two.a ∷ minutes.two.b ∷ [] in
        record {
          hours = h.0;
          minutes = m.0;
          hours_text = hours_text;
          minutes_text = minutes_text;
          whole =
              hours.splits ∙ ap (λ r. hours_text ++ r)
              (minutes.splits ∙ ap (λ r. codes ":" ++ r) (minutes.two.splits ∙ ap (λ r. minutes_text ++ r) (at-end m.1 outer.1)));
          is_hours = two-writes bs h hours;
          is_minutes = two-writes minutes.rest m minutes.two;
          few_hours = le-true h.0 14 inner.0;
          few_minutes = le-true m.0 59 inner.1;
          value = sym done;
        }

ahead-taken : (o : Option ℕ) (z : ℤ) → ahead o ≡ Some z → (seconds : ℕ) × (o ≡ Some seconds) × (z ≡ pos seconds)
ahead-taken None z e = absurd (cc)
ahead-taken (Some seconds) z e = let same : pos seconds ≡ z = cc in (seconds, refl, sym same)

back-taken : (o : Option ℕ) (z : ℤ) → back o ≡ Some z → (seconds : ℕ) × (o ≡ Some seconds) × (z ≡ neg_ℤ (pos seconds))
back-taken None z e = absurd (cc)
back-taken (Some seconds) z e = let same : neg_ℤ (pos seconds) ≡ z = cc in (seconds, refl, sym same)

pub zone-taken : (bs : List ℕ) (z : ℤ) → zone_in bs ≡ Some z → NamesZone bs z
unfolding zone_in
zone-taken [] z e = let same : pos 0 ≡ z = cc in none refl (sym same)
zone-taken (b ∷ bs) z e = utc_or (b == 90 && is_at_end bs) refl e
  where
    west_or : (t : Bool) → (b == 45) ≡ t → (if t then back (offset_in bs) else None) ≡ Some z → NamesZone (b ∷ bs) z
    west_or true is e =
        let found = back-taken (offset_in bs) z e in
        west bs found.0 (ap (λ c. c ∷ bs) (eqb-true b 45 is)) (offset-taken bs found.0 found.1) found.2
    west_or false is e = absurd (cc)

    east_or : (t : Bool) → (b == 43) ≡ t → (if t then ahead (offset_in bs) else if b == 45 then back (offset_in bs) else None) ≡ Some z → NamesZone (b ∷ bs) z
    east_or true is e =
        let found = ahead-taken (offset_in bs) z e in
        east bs found.0 (ap (λ c. c ∷ bs) (eqb-true b 43 is)) (offset-taken bs found.0 found.1) found.2
    east_or false is e = west_or (b == 45) refl e

    utc_or : (t : Bool) → (b == 90 && is_at_end bs) ≡ t
        → (if t then Some (pos 0) else if b == 43 then ahead (offset_in bs) else if b == 45 then back (offset_in bs) else None) ≡ Some z → NamesZone (b ∷ bs) z
    utc_or true is e =
        let parts = and_parts (b == 90) (is_at_end bs) is in
        let same : pos 0 ≡ z = cc in
        utc (ap (λ c. c ∷ bs) (eqb-true b 90 parts.0) ∙ ap (λ r. 90 ∷ r) (at-end bs parts.1)) (sym same)
    utc_or false is e = east_or (b == 43) refl e

-- ---- a moment

le-yes : (a b : ℤ) → int_le a b ≡ true → a ≤ℤ b
le-yes a b e = le_z_yes (subst T (sym e) tt)

years-taken : (seconds z : ℤ) → within_years seconds ≡ Some z → (z ≡ seconds) × IsMoment z
years-taken seconds z e = by (is_moment seconds) refl e
  where
    by : (b : Bool) → is_moment seconds ≡ b → (if b then Some seconds else None) ≡ Some z → (z ≡ seconds) × IsMoment z
    by false is e = absurd (cc)
    by true is e =
        let same : seconds ≡ z = cc in
        let parts = and_parts (int_le first_moment seconds) (int_le seconds last_moment) is in
        (sym same, subst IsMoment same (le-yes first_moment seconds parts.0, le-yes seconds last_moment parts.1))

abbrev pub from_zone : ℤ → ℕ → ℤ → Option ℤ
from_zone day time z = within_years ((day +ℤ pos time) -ℤ z)

abbrev pub from_fraction : ℤ → ℕ → List ℕ → Option ℤ
from_fraction day time zone = zone_in zone >>= from_zone day time

abbrev pub from_time : ℤ → ℕ × List ℕ → Option ℤ
from_time day time = behind_fraction time.1 >>= from_fraction day time.0

abbrev pub from_rest : ℤ → List ℕ → Option ℤ
from_rest day rest = time_at rest >>= from_time day

abbrev pub from_date : ℤ × List ℕ → Option ℤ
from_date date = behind (codes "T") date.1 >>= from_rest date.0

pub moment-taken : (text : List ℕ) (seconds : ℤ) → moment_of text ≡ Some seconds → Names text seconds
unfolding moment_of
moment-taken text seconds e =
    let d = bind_some (date_at text) from_date seconds e in
    let r = bind_some (behind (codes "T") d.0.1) (from_rest d.0.0) seconds d.2 in
    let t = bind_some (time_at r.0) (from_time d.0.0) seconds r.2 in
    let f = bind_some (behind_fraction t.0.1) (from_fraction d.0.0 t.0.0) seconds t.2 in
    let z = bind_some (zone_in f.0) (from_zone d.0.0 t.0.0) seconds f.2 in
    let day = day-taken text d.0 d.1 in
    let time = time-taken r.0 t.0 t.1 in
    let fraction = fraction-taken t.0.1 f.0 f.1 in
    let years = years-taken ((d.0.0 +ℤ pos t.0.0) -ℤ z.0) seconds z.2 in
    record {
      day_text = day.text;
      time_text = time.text;
      fraction_text = fraction.text;
      zone_text = f.0;
      day = d.0.0;
      time = t.0.0;
      ahead = z.0;
      whole =
          day.splits ∙ ap (λ r. day.text ++ r)
          (behind_takes (codes "T") d.0.1 r.0 r.1 ∙ ap (λ r. codes "T" ++ r) (time.splits ∙ ap (λ r. time.text ++ r) fraction.splits));
      is_day = day.names;
      is_time = time.names;
      is_fraction = fraction.is;
      is_zone = zone-taken f.0 z.0 z.1;
      value = years.0;
      in_years = years.1;
    }
