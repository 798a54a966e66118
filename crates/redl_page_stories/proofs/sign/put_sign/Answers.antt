use Rattle.std.proofs.Common.{codes, ◌++◌, ap, sym}
use Rattle.std.specs.Prelude.{decimal}
use Rattle.redl_io.proofs.Puts.{puts_then, puts_fails}
use Rattle.redl_html.specs.Escaping.{escaped}
use Rattle.redl_page_stories.specs.Signs.{author_at}
use Rattle.redl_html.proofs.PieceLaws.{three_then}
use Rattle.redl_page_stories.proofs.sign.put_sign.Goals as goal

pub returns-in_err-put_pieces : goal.returns-in_err-put_pieces
returns-in_err-put_pieces g c =
    puts_fails _ (three_then c.args.before.now (decimal c.args.rev) (codes "\" data-author=\"") (escaped (author_at c.args.index.now c.args.rev) ++ c.args.after.now))
    c.from_residual.ensures.1 (rw (c.as_bytes-digits.ensures.value, c.format.ensures.text) at c.in_err-put_pieces.ensures)

pub returns-in_err-put_escaped : goal.returns-in_err-put_escaped
returns-in_err-put_escaped g c =
    puts_then (three_then c.args.before.now (decimal c.args.rev) (codes "\" data-author=\"") (escaped (author_at c.args.index.now c.args.rev) ++ c.args.after.now))
    (rw (c.as_bytes-digits.ensures.value, c.format.ensures.text) at c.in_ok-put_pieces.ensures)
    (puts_fails c.args.after.now (ap (λ author. escaped author ++ c.args.after.now) (sym c.author_at.ensures)) c.from_residual-in_err-put_escaped.ensures.1 c.in_err-put_escaped.ensures)

pub returns : goal.returns
returns g c =
    puts_then (three_then c.args.before.now (decimal c.args.rev) (codes "\" data-author=\"") (escaped (author_at c.args.index.now c.args.rev) ++ c.args.after.now))
    (rw (c.as_bytes-digits.ensures.value, c.format.ensures.text) at c.in_ok-put_pieces.ensures)
    (puts_then (ap (λ author. escaped author ++ c.args.after.now) (sym c.author_at.ensures)) c.in_ok-put_escaped.ensures c.put_piece.ensures)
