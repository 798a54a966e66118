use Rattle.std.proofs.Common.{refl}
use Rattle.std.specs.List.{flat_map}
use Rattle.redl_lines.specs.Lines.{note_line}
use Rattle.redl_io.proofs.Puts.{puts_then, puts_fails}
use Rattle.redl_lines.proofs.lines.write_remarks.Goals as goal

pub returns-in_err-write_refused : goal.returns-in_err-write_refused
returns-in_err-write_refused g c = puts_fails _ refl c.from_residual.ensures.1 c.in_err-write_refused.ensures

pub returns-in_err-write_refused-2 : goal.returns-in_err-write_refused-2
returns-in_err-write_refused-2 g c =
    puts_then refl c.in_ok-write_refused.ensures (puts_fails _ refl c.from_residual-in_err-write_refused-2.ensures.1 c.in_err-write_refused-2.ensures)

pub returns-in_err-write_idle : goal.returns-in_err-write_idle
returns-in_err-write_idle g c =
    rw c.deref.ensures.value at
    (puts_then refl c.in_ok-write_refused.ensures (puts_then refl c.in_ok-write_refused-2.ensures
    (puts_fails (flat_map note_line c.args.remarks.now.notes.items) refl c.from_residual-in_err-write_idle.ensures.1 c.in_err-write_idle.ensures)))

pub returns : goal.returns
returns g c =
    rw (c.deref.ensures.value, c.deref-2.ensures.value) at
    (puts_then refl c.in_ok-write_refused.ensures (puts_then refl c.in_ok-write_refused-2.ensures
    (puts_then refl c.in_ok-write_idle.ensures c.write_notes.ensures)))
