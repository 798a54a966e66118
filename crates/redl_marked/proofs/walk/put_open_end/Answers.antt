use Rattle.std.proofs.Common.{sym, ◌∙◌}
use Rattle.redl_io.proofs.Puts.{puts_then, puts_fails}
use Rattle.redl_tree.specs.Model.View.{tag_of, kids_of, nodes_of}
use Rattle.redl_marked.proofs.WalkLaws.{para_text}
use Rattle.redl_marked.proofs.walk.put_open_end.Goals as goal

pub returns-in_err-put_para_signs : goal.returns-in_err-put_para_signs
returns-in_err-put_para_signs g c =
    puts_fails _ (para_text (tag_of c.args.elem.now) (kids_of c.args.elem.now) (nodes_of c.kids.result.now) (sym c.is_word.ensures ∙ c.if-not-is_word.false) c.kids.ensures.kids)
    c.from_residual.ensures.1 c.in_err-put_para_signs.ensures

pub returns : goal.returns
returns g c =
    puts_then (para_text (tag_of c.args.elem.now) (kids_of c.args.elem.now) (nodes_of c.kids.result.now) (sym c.is_word.ensures ∙ c.if-not-is_word.false) c.kids.ensures.kids)
    c.in_ok-put_para_signs.ensures c.put_piece.ensures
