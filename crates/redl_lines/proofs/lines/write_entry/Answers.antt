use Rattle.std.proofs.Common.{refl}
use Rattle.redl_io.proofs.Puts.{puts_then, puts_fails}
use Rattle.redl_lines.proofs.lines.write_entry.Goals as goal

pub returns-in_err-write_decision : goal.returns-in_err-write_decision
returns-in_err-write_decision g c = puts_fails _ refl c.from_residual.ensures.1 c.in_err-write_decision.ensures

pub returns-in_err-write_rank : goal.returns-in_err-write_rank
returns-in_err-write_rank g c =
    puts_then refl c.in_ok-write_decision.ensures (puts_fails _ refl c.from_residual-in_err-write_rank.ensures.1 c.in_err-write_rank.ensures)

pub returns : goal.returns
returns g c =
    puts_then refl c.in_ok-write_decision.ensures
    (puts_then refl c.in_ok-write_rank.ensures (rw (c.as_bytes.ensures, c.why_text.ensures) at c.write_cause.ensures))
