use Rattle.std.proofs.Common.{◌∙◌, ◌++◌, ap, sym, codes}
use Rattle.redl_io.proofs.Puts.{puts_then, puts_fails}
use Rattle.redl_html.specs.Escaping.{escaped}
use Rattle.redl_page_remarks.proofs.RemarkLaws.{end-text}
use Rattle.redl_page_remarks.proofs.remarks.put_remark_end.Goals as goal

pub returns-in_err-put_attribute : goal.returns-in_err-put_attribute
returns-in_err-put_attribute g c =
    puts_fails _ (end-text c.args.is_done c.args.comment.now.text) c.from_residual.ensures.1
    (rw (c.done_attribute.ensures, c.as_bytes.ensures) at c.in_err-put_attribute.ensures)

pub returns : goal.returns
returns g c =
    puts_then (end-text c.args.is_done c.args.comment.now.text)
    (rw (c.done_attribute.ensures, c.as_bytes.ensures) at c.in_ok-put_attribute.ensures) c.put_piece.ensures
