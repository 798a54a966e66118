-- Dates and their moments, computed by the definition.
use Rattle.std.proofs.Common.{◌≡◌, Some, None, ℤ, pos, ◌-ℤ◌, codes, refl}
use Prim.Native.String.{String}
use Rattle.std.specs.Prelude.{Option}
use Rattle.jiff_core.specs.Calendar.{days_from_civil, day_count, days_of_years, days_of_months}
use Rattle.redl_stamp.specs.Moment.{seconds_to, date_at, time_at, behind_fraction, offset_in, zone_in, moment_of, first_moment, last_moment}

abbrev IsRead : String → Option ℤ → Type 0
IsRead text seconds = moment_of (codes text) ≡ seconds

row_utc : IsRead "2024-05-06T07:08:09Z" (Some (pos 1_714_979_289))
unfolding moment_of date_at time_at behind_fraction zone_in days_from_civil day_count days_of_years days_of_months
row_utc = refl

row_fraction_without_zone : IsRead "2024-05-06T07:08:09.5" (Some (pos 1_714_979_289))
unfolding moment_of date_at time_at behind_fraction zone_in days_from_civil day_count days_of_years days_of_months
row_fraction_without_zone = refl

row_offset : IsRead "2024-05-06T09:08:10+02:00" (Some (pos 1_714_979_290))
unfolding moment_of date_at time_at behind_fraction zone_in offset_in days_from_civil day_count days_of_years days_of_months
row_offset = refl

row_first_second : IsRead "1970-01-01T00:00:00Z" (Some (pos 0))
unfolding moment_of date_at time_at behind_fraction zone_in days_from_civil day_count days_of_years days_of_months
row_first_second = refl

row_no_such_day : IsRead "2024-02-30T00:00:00Z" None
unfolding moment_of date_at
row_no_such_day = refl

row_without_time : IsRead "2024-05-06" None
unfolding moment_of date_at days_from_civil day_count days_of_years days_of_months
row_without_time = refl

row_nothing : IsRead "" None
unfolding moment_of date_at
row_nothing = refl

-- the bounds of the years 0000 to 9999
row_first_year : seconds_to (days_from_civil (pos 0) 1 1) ≡ first_moment
unfolding days_from_civil day_count days_of_years days_of_months
row_first_year = refl

row_last_year : seconds_to (days_from_civil (pos 10_000) 1 1) -ℤ pos 1 ≡ last_moment
unfolding days_from_civil day_count days_of_years days_of_months
row_last_year = refl
