-- The calendar has the day, since it is at most 9999-12-31.
use Rattle.jiff_core.proofs.DateLemmas.{civil}
use Rattle.redl_formats.proofs.DateLaws.{count-since, year-since}
use Rattle.redl_formats.proofs.dates.day_after.Goals as goal

pub returns : goal.returns
returns c =
    let count = count-since c.from_days_since_min.result c.args.days c.from_days_since_min.ensures in
    record { year = year-since _ _ _ _ (civil c.from_days_since_min.result) count; days = count }
