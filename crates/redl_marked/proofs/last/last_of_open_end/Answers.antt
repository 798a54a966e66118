use Rattle.std.proofs.Common.{sym, ◌∙◌}
use Rattle.redl_tree.specs.Model.View.{tag_of, kids_of}
use Rattle.redl_marked.proofs.LastLaws.{open_end_last}
use Rattle.redl_marked.proofs.last.last_of_open_end.Goals as goal

pub returns-then-is_word : goal.returns-then-is_word
returns-then-is_word c =
    sym (open_end_last c.args.above.quiet (tag_of c.args.elem.now) (kids_of c.args.elem.now) c.if-above.false (sym c.is_word.ensures ∙ c.if-is_word.true))
