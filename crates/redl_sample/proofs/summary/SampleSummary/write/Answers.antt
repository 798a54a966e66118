use Rattle.std.proofs.Common.{refl}
use Rattle.redl_io.proofs.Puts.{puts_then, puts_fails}
use Rattle.redl_sample.proofs.summary.SampleSummary.write.Goals as goal

pub returns-in_err-write_number : goal.returns-in_err-write_number
returns-in_err-write_number g c = puts_fails _ refl c.from_residual.ensures.1 c.in_err-write_number.ensures

pub returns-in_err-write_number-2 : goal.returns-in_err-write_number-2
returns-in_err-write_number-2 g c = puts_then refl c.in_ok-write_number.ensures (puts_fails _ refl c.from_residual-in_err-write_number-2.ensures.1 c.in_err-write_number-2.ensures)

pub returns-in_err-write_number-3 : goal.returns-in_err-write_number-3
returns-in_err-write_number-3 g c = puts_then refl c.in_ok-write_number.ensures (puts_then refl c.in_ok-write_number-2.ensures (puts_fails _ refl c.from_residual-in_err-write_number-3.ensures.1 c.in_err-write_number-3.ensures))

pub returns-in_err-write_tally : goal.returns-in_err-write_tally
returns-in_err-write_tally g c = puts_then refl c.in_ok-write_number.ensures (puts_then refl c.in_ok-write_number-2.ensures (puts_then refl c.in_ok-write_number-3.ensures (puts_fails _ refl c.from_residual-in_err-write_tally.ensures.1 c.in_err-write_tally.ensures)))

pub returns-in_err-write_number-4 : goal.returns-in_err-write_number-4
returns-in_err-write_number-4 g c = puts_then refl c.in_ok-write_number.ensures (puts_then refl c.in_ok-write_number-2.ensures (puts_then refl c.in_ok-write_number-3.ensures (puts_then refl c.in_ok-write_tally.ensures (puts_fails _ refl c.from_residual-in_err-write_number-4.ensures.1 c.in_err-write_number-4.ensures))))

pub returns : goal.returns
returns g c = puts_then refl c.in_ok-write_number.ensures (puts_then refl c.in_ok-write_number-2.ensures (puts_then refl c.in_ok-write_number-3.ensures (puts_then refl c.in_ok-write_tally.ensures (puts_then refl c.in_ok-write_number-4.ensures (rw c.digest_digits.ensures at c.write_line.ensures)))))
