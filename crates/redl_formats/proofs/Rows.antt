-- Dates by hand, with their texts.
use Rattle.std.proofs.Common.{◌≡◌, Some, pos, codes, refl}
use Rattle.redl_formats.specs.Dates.{year_and_day, month_and_day, date_text}
use Rattle.redl_stamp.specs.Moment.{first_moment, last_moment}

-- the bounds of the years 0000 to 9999, and the day before a leap year's March
row_first : date_text (Some first_moment) ≡ codes "0000-01-01T00:00:00Z"
unfolding year_and_day month_and_day
row_first = refl

row_last : date_text (Some last_moment) ≡ codes "9999-12-31T23:59:59Z"
unfolding year_and_day month_and_day
row_last = refl

row_leap : date_text (Some (pos 951_782_400)) ≡ codes "2000-02-29T00:00:00Z"
unfolding year_and_day month_and_day
row_leap = refl
