use Rattle.std.proofs.Common.{◌∙◌, Some, ap, sym}
use Rattle.redl_tree.specs.Model.View.{tag_of, kids_of}
use Rattle.redl_bare.specs.Marks.{stamp_in, sign_of, own_mark}
use Rattle.redl_bare.specs.Inside.Views.{stamp_view}
use Rattle.redl_bare.proofs.marks.own_mark.Goals as goal

pub returns-in-Content : goal.returns-in-Content
returns-in-Content c =
    let trace = c.in-Content.trace in
    ap (λ s. Some (record { sign = s; stamp = stamp_view c.stamp_in.result })) c.sign_of.ensures
    ∙ ap (λ s. Some (record { sign = sign_of trace; stamp = s })) (c.stamp_in.ensures ∙ ap stamp_in c.tail.ensures)
    ∙ ap (λ k. own_mark k (tag_of c.args.elem.now) (kids_of c.args.elem.now)) (sym c.in-Content.is)
