use Rattle.std.proofs.Common.{ap, sym, ◌++◌, append-nil, codes}
use Rattle.std.specs.Prelude.{decimal}
use Rattle.redl_html.proofs.PieceLaws.{puts_is}
use Rattle.redl_page.proofs.changes.put_number.Goals as goal

pub returns : goal.returns
returns g c =
    puts_is (ap (λ l. codes "<li id=\"revision-" ++ l) (sym (append-nil (decimal c.args.number))))
    (rw (c.as_slice.ensures, c.as_bytes-digits.ensures.value, c.format.ensures.text) at c.put_pieces.ensures)
