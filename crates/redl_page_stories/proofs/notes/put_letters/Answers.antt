-- Letter by letter.
use Rattle.std.proofs.Common.{refl}
use Rattle.redl_io.proofs.Puts.{puts_then, puts_fails}
use Rattle.redl_page_stories.proofs.NoteLaws.{roman-text}
use Rattle.redl_page_stories.proofs.notes.put_letters.Goals as goal

pub returns-in_err-put_escaped : goal.returns-in_err-put_escaped
returns-in_err-put_escaped g c = puts_fails _ (roman-text c.args.count) c.from_residual.ensures.1 (rw c.thousands.ensures at c.in_err-put_escaped.ensures)

pub returns-in_err-put_escaped-2 : goal.returns-in_err-put_escaped-2
returns-in_err-put_escaped-2 g c =
    puts_then (roman-text c.args.count) (rw c.thousands.ensures at c.in_ok-put_escaped.ensures)
    (puts_fails _ refl c.from_residual-in_err-put_escaped-2.ensures.1 (rw c.hundreds.ensures at c.in_err-put_escaped-2.ensures))

pub returns-in_err-put_escaped-3 : goal.returns-in_err-put_escaped-3
returns-in_err-put_escaped-3 g c =
    puts_then (roman-text c.args.count) (rw c.thousands.ensures at c.in_ok-put_escaped.ensures)
    (puts_then refl (rw c.hundreds.ensures at c.in_ok-put_escaped-2.ensures)
    (puts_fails _ refl c.from_residual-in_err-put_escaped-3.ensures.1 (rw c.tens.ensures at c.in_err-put_escaped-3.ensures)))

pub returns : goal.returns
returns g c =
    puts_then (roman-text c.args.count) (rw c.thousands.ensures at c.in_ok-put_escaped.ensures)
    (puts_then refl (rw c.hundreds.ensures at c.in_ok-put_escaped-2.ensures)
    (puts_then refl (rw c.tens.ensures at c.in_ok-put_escaped-3.ensures) (rw c.units.ensures at c.put_escaped-4.ensures)))
