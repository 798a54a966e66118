use Rattle.std.proofs.Common.{◌≡◌, ◌<◌, arith, pos, ◌+ℤ◌, ◌-ℤ◌, to_z, of_z, w64}
use Rattle.std.proofs.lemmas.Int.{to_z_pos}
use Rattle.jiff_core.proofs.SignedLemmas.{signed_arith}
use Rattle.redl_stamp.specs.Moment.{moment_of}
use Rattle.redl_stamp.proofs.moment.moment.Goals as goal

pub returns-clause-value : goal.returns-clause-value
unfolding moment_of
returns-clause-value c =
    let midnight = c.in_ok-date.date in
    let ahead = c.in_ok-ahead.ahead in
    let date_in = c.in_ok-date.ensures.range in
    let zone_in = c.in_ok-ahead.ensures.range in
    let time_in : c.in_ok-time.time < 86_400 = c.in_ok-time.ensures.range in
    let date_fits : to_z w64 (of_z w64 midnight) ≡ midnight = omega (arith, signed_arith, date_in) in
    let time_fits : to_z w64 c.in_ok-time.time ≡ pos c.in_ok-time.time = to_z_pos w64 c.in_ok-time.time (omega arith) in
    let zone_fits : to_z w64 (of_z w64 ahead) ≡ ahead = omega (arith, signed_arith, zone_in) in
    let with_time : to_z w64 (of_z w64 (midnight +ℤ pos c.in_ok-time.time)) ≡ midnight +ℤ pos c.in_ok-time.time = omega (arith, signed_arith, date_in) in
    let whole : to_z w64 (of_z w64 ((midnight +ℤ pos c.in_ok-time.time) -ℤ ahead)) ≡ (midnight +ℤ pos c.in_ok-time.time) -ℤ ahead = omega (arith, signed_arith, date_in, zone_in) in
    let given = rw (date_fits, time_fits, zone_fits, with_time, whole) at c.within_years.ensures.value in
    rw (c.in_ok-date.ensures.value, c.in_ok-rest.ensures, c.in_ok-time.ensures.value, c.in_ok-rest-2.ensures, ← c.in_ok-ahead.ensures.value) given
