use Rattle.std.proofs.Common.{◌++◌, ap, sym}
use Rattle.redl_io.proofs.Puts.{puts_then, puts_fails}
use Rattle.redl_page.specs.Changes.{saying_end}
use Rattle.redl_html.specs.Escaping.{escaped}
use Rattle.redl_html.specs.Pieces.{pieces_text}
use Rattle.redl_page.proofs.ChangeLaws.{saying-text}
use Rattle.redl_page.proofs.changes.put_saying.Goals as goal

pub returns-in_err-put_pieces : goal.returns-in_err-put_pieces
returns-in_err-put_pieces g c =
    puts_fails _ (saying-text c.args.entry.now) c.from_residual.ensures.1 (rw (c.word_before.ensures, c.as_bytes-rank.ensures.value, c.format.ensures.text) at c.in_err-put_pieces.ensures)

pub returns-in_err-put_escaped : goal.returns-in_err-put_escaped
returns-in_err-put_escaped g c =
    puts_then (saying-text c.args.entry.now) (rw (c.word_before.ensures, c.as_bytes-rank.ensures.value, c.format.ensures.text) at c.in_ok-put_pieces.ensures)
    (puts_fails _ (ap (λ r. escaped r ++ pieces_text (saying_end c.args.entry.now.word c.args.entry.now.rank)) (sym c.as_bytes-reviewer.ensures)) c.from_residual-in_err-put_escaped.ensures.1
    c.in_err-put_escaped.ensures)

pub returns : goal.returns
returns g c =
    puts_then (saying-text c.args.entry.now) (rw (c.word_before.ensures, c.as_bytes-rank.ensures.value, c.format.ensures.text) at c.in_ok-put_pieces.ensures)
    (puts_then (ap (λ r. escaped r ++ pieces_text (saying_end c.args.entry.now.word c.args.entry.now.rank)) (sym c.as_bytes-reviewer.ensures)) c.in_ok-put_escaped.ensures c.put_saying_end.ensures)
