use Rattle.std.proofs.Common.{ap, ◌∙◌, [], not, if◌then◌else◌}
use Rattle.redl_tree.specs.Model.View.{tag_of}
use Rattle.redl_marked.specs.Signs.{start_sign}
use Rattle.redl_marked.specs.MarkedText.{open_start}
use Rattle.redl_marked.specs.Inside.Walks.{last_of}
use Rattle.redl_marked.proofs.LastLaws.{last_two}
use Rattle.redl_marked.proofs.last.last_of_start.Goals as goal

pub returns : goal.returns
returns c =
    let tag = tag_of c.args.elem.now in
    last_two (start_sign tag.kind tag.rev) (if not c.args.above.quiet then open_start tag else [])
    c.last_of_start_sign.result c.last_of_open_start.result c.or.result
    (c.last_of_start_sign.ensures tag.rev ∙ ap (λ kind. last_of (start_sign kind tag.rev)) c.kind.ensures)
    c.last_of_open_start.ensures c.or.ensures
