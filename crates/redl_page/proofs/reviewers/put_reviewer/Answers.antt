use Rattle.std.proofs.Common.{ap, codes, sym, ◌++◌}
use Rattle.std.specs.Prelude.{decimal}
use Rattle.redl_io.proofs.Puts.{puts_then, puts_fails}
use Rattle.redl_html.specs.Escaping.{escaped}
use Rattle.redl_html.proofs.PieceLaws.{three_then}
use Rattle.redl_page.proofs.reviewers.put_reviewer.Goals as goal

pub returns-in_err-put_pieces : goal.returns-in_err-put_pieces
returns-in_err-put_pieces g c =
    puts_fails _ (three_then (codes "<li data-sequence=\"") (decimal c.args.last.now.seq) (codes "\">") (escaped c.args.last.now.reviewer ++ codes "</li>\n"))
    c.from_residual.ensures.1 (rw (c.as_slice.ensures, c.as_bytes-sequence.ensures.value, c.format.ensures.text) at c.in_err-put_pieces.ensures)

pub returns-in_err-put_escaped : goal.returns-in_err-put_escaped
returns-in_err-put_escaped g c =
    puts_then (three_then (codes "<li data-sequence=\"") (decimal c.args.last.now.seq) (codes "\">") (escaped c.args.last.now.reviewer ++ codes "</li>\n"))
    (rw (c.as_slice.ensures, c.as_bytes-sequence.ensures.value, c.format.ensures.text) at c.in_ok-put_pieces.ensures)
    (puts_fails (codes "</li>\n") (ap (λ r. escaped r ++ codes "</li>\n") (sym c.as_bytes-reviewer.ensures)) c.from_residual-in_err-put_escaped.ensures.1 c.in_err-put_escaped.ensures)

pub returns : goal.returns
returns g c =
    puts_then (three_then (codes "<li data-sequence=\"") (decimal c.args.last.now.seq) (codes "\">") (escaped c.args.last.now.reviewer ++ codes "</li>\n"))
    (rw (c.as_slice.ensures, c.as_bytes-sequence.ensures.value, c.format.ensures.text) at c.in_ok-put_pieces.ensures)
    (puts_then (ap (λ r. escaped r ++ codes "</li>\n") (sym c.as_bytes-reviewer.ensures)) c.in_ok-put_escaped.ensures c.put_piece.ensures)
