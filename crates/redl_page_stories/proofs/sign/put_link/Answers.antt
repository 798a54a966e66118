use Rattle.std.proofs.Common.{codes}
use Rattle.std.specs.Prelude.{decimal}
use Rattle.redl_io.proofs.Puts.{puts_then, puts_fails}
use Rattle.redl_page_stories.specs.Signs.{sign_text}
use Rattle.redl_html.proofs.PieceLaws.{four_then}
use Rattle.redl_page_stories.proofs.sign.put_link.Goals as goal

pub returns-in_err-put_pieces : goal.returns-in_err-put_pieces
returns-in_err-put_pieces g c =
    puts_fails _ (four_then c.args.id.now (decimal c.args.rev) c.args.target.now (decimal c.args.rev) (sign_text c.args.index.now (codes "\" data-revision=\"") c.args.rev c.args.after.now))
    c.from_residual.ensures.1 (rw (c.as_bytes-digits.ensures.value, c.format.ensures.text) at c.in_err-put_pieces.ensures)

pub returns : goal.returns
returns g c =
    puts_then (four_then c.args.id.now (decimal c.args.rev) c.args.target.now (decimal c.args.rev) (sign_text c.args.index.now (codes "\" data-revision=\"") c.args.rev c.args.after.now))
    (rw (c.as_bytes-digits.ensures.value, c.format.ensures.text) at c.in_ok-put_pieces.ensures) c.put_sign.ensures
