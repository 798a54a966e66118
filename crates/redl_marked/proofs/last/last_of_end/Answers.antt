use Rattle.std.proofs.Common.{ap, ◌∙◌, [], not, if◌then◌else◌}
use Rattle.redl_tree.specs.Model.View.{tag_of, kids_of}
use Rattle.redl_marked.specs.Signs.{end_sign}
use Rattle.redl_marked.specs.MarkedText.{open_end}
use Rattle.redl_marked.specs.Inside.Walks.{last_of}
use Rattle.redl_marked.proofs.LastLaws.{last_two}
use Rattle.redl_marked.proofs.last.last_of_end.Goals as goal

pub returns : goal.returns
returns c =
    let tag = tag_of c.args.elem.now in
    last_two (if not c.args.above.quiet then open_end tag (kids_of c.args.elem.now) else []) (end_sign tag.kind)
    c.last_of_open_end.result c.last_of_end_sign.result c.or.result c.last_of_open_end.ensures
    (c.last_of_end_sign.ensures ∙ ap (λ kind. last_of (end_sign kind)) c.kind.ensures) c.or.ensures
