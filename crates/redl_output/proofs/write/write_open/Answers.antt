use Rattle.std.proofs.Common.{◌++◌, refl, sym, ap, ◌∙◌}
use Rattle.redl_io.proofs.Puts.{puts_then, puts_fails}
use Rattle.redl_tree.specs.Model.Text.{start_text, opened_text}
use Rattle.redl_tree.specs.Model.View.{tag_of, close_of}
use Rattle.redl_output.proofs.write.write_open.Goals as goal

pub returns-in-None : goal.returns-in-None
returns-in-None g c =
    puts_then (ap (λ e. start_text (tag_of c.args.elem.now) ++ opened_text e) (sym c.close.ensures ∙ ap close_of c.in-None.is)) c.in_ok-write_start.ensures c.put_piece.ensures

pub returns-in-Some : goal.returns-in-Some
returns-in-Some g c =
    puts_then (ap (λ e. start_text (tag_of c.args.elem.now) ++ opened_text e) (sym c.close.ensures ∙ ap close_of c.in-Some.is)) c.in_ok-write_start.ensures c.put_piece-in-Some.ensures

pub returns-in_err-write_start : goal.returns-in_err-write_start
returns-in_err-write_start g c = puts_fails _ refl c.from_residual.ensures.1 c.in_err-write_start.ensures
