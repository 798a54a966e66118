use Rattle.std.proofs.Common.{arith, ◌≡◌, pos, ◌∙◌}
use Rattle.jiff_core.specs.Date.{epoch_day}
use Rattle.jiff_core.proofs.DateLemmas.{epoch_day_range}
use Rattle.jiff_core.proofs.SignedLemmas.{signed_arith}
use Rattle.redl_stamp.specs.Moment.{seconds_to}
use Rattle.redl_stamp.proofs.Quotients.{epoch_day-first, seconds_between}
use Rattle.redl_stamp.proofs.moment.seconds_to.Goals as goal

pub returns : goal.returns
returns c =
    let first : epoch_day c.date-epoch.result ≡ pos 0 =
    epoch_day-first c.date-epoch.result c.date-epoch.ensures.0 (omega (arith, signed_arith)) (omega (arith, signed_arith)) in
    let seconds : c.as_secs.result ≡ seconds_to (epoch_day c.args.date) =
    c.as_secs.ensures ∙ seconds_between (epoch_day c.args.date) (epoch_day c.date-epoch.result) _ first c.duration_since.ensures in
    record {
      seconds = omega (arith, signed_arith, epoch_day_range c.args.date);
      range = omega (arith, signed_arith, epoch_day_range c.args.date);
    }
