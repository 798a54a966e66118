use Rattle.std.proofs.Common.{[], ◌∷◌, sym, append-nil, refl}
use Rattle.redl_io.proofs.Puts.{puts_then, puts_fails, puts_as}
use Rattle.redl_tree.specs.Model.View.{nodes_of}
use Rattle.redl_opc.specs.Elements.{element_of}
use Rattle.redl_marked.specs.Inside.Walks.{summary_of}
use Rattle.redl_marked.proofs.StoryLaws.{part_text, part_last}
use Rattle.redl_marked.proofs.package.put_part.Goals as goal

pub returns-in_err-put_heading-clause-puts : goal.returns-in_err-put_heading-clause-puts
returns-in_err-put_heading-clause-puts g c =
    let root = element_of c.in-Some-story.root.now in
    puts_fails _ (part_text c.args.before c.args.pkg.now c.args.part c.in-Some.name.now root (summary_of (root.tag ∷ [])) root.kids c.in-Some.ensures.value c.in-Some-story.ensures.value refl refl)
    c.from_residual.ensures.1 c.in_err-put_heading.ensures

pub returns-in_err-put_nodes-clause-puts : goal.returns-in_err-put_nodes-clause-puts
returns-in_err-put_nodes-clause-puts g c =
    puts_then
    (part_text c.args.before c.args.pkg.now c.args.part c.in-Some.name.now (element_of c.in-Some-story.root.now) c.in_root.result (nodes_of c.kids.result.now) c.in-Some.ensures.value c.in-Some-story.ensures.value c.in_root.ensures c.kids.ensures.kids)
    c.in_ok-put_heading.ensures (puts_fails [] (sym (append-nil _)) c.from_residual-in_err-put_nodes.ensures.1 c.in_err-put_nodes.ensures)

pub returns-clause-puts : goal.returns-clause-puts
returns-clause-puts g c =
    puts_then
    (part_text c.args.before c.args.pkg.now c.args.part c.in-Some.name.now (element_of c.in-Some-story.root.now) c.in_root.result (nodes_of c.kids.result.now) c.in-Some.ensures.value c.in-Some-story.ensures.value c.in_root.ensures c.kids.ensures.kids)
    c.in_ok-put_heading.ensures (puts_as c.in_ok-put_nodes.ensures)

pub returns-clause-last : goal.returns-clause-last
returns-clause-last g c =
    part_last c.args.before c.args.pkg.now c.args.part c.in-Some.name.now (element_of c.in-Some-story.root.now) c.last_of_story.result c.in-Some.ensures.value c.in-Some-story.ensures.value
    (c.last_of_story.ensures c.in-Some.name.now)
