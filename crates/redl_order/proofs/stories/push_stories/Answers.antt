-- Part by part.
use Rattle.std.proofs.Common.{◌+◌, ◌<◌, ◌≤◌, ◌++◌, arith, ap, sym, ◌∙◌, length, List, filter, append_assoc, append-nil}
use Rattle.std.proofs.lemmas.List.Elements.{filter-append}
use Rattle.redl_tree.specs.Model.View.{Element}
use Rattle.redl_tree.specs.Roles.Words.{name_of}
use Rattle.redl_opc.specs.Shape.{parts_of}
use Rattle.redl_opc.specs.Stories.{stories_of_part, stories_from}
use Rattle.redl_opc.proofs.WalkLaws.{stories_from-start, stories_from-part, stories_from-end}
use Rattle.redl_order.specs.Order.{has_name}
use Rattle.redl_order.specs.Borrowed.{all_borrowed}
use Rattle.redl_order.proofs.stories.push_stories.Goals as goal

pub loop-part-init : goal.loop-part-init
loop-part-init c =
    ap (λ (roots : List Element). all_borrowed c.args.roots.now.items ++ filter (has_name (name_of c.args.word)) roots) (stories_from-start c.args.pkg.now c.parts-part-end.ensures.shape)

pub loop-part-preserved : goal.loop-part-preserved
loop-part-preserved c =
    let pkg = c.args.pkg.now in
    let part = c.loop-part.part in
    let p = has_name (name_of c.args.word) in
    let old = all_borrowed c.loop-part.roots.items in
    let within : part < length (parts_of pkg) = omega (arith, c.parts-part-end.ensures.value) in
    let more = filter p (stories_from (part + 1) pkg) in
    ap (λ (es : List Element). es ++ more) c.in_ok-push_story.ensures
    ∙ append_assoc old (filter p (stories_of_part pkg part)) more
    ∙ ap (λ (es : List Element). old ++ es) (sym (ap (filter p) (stories_from-part pkg part within) ∙ filter-append p (stories_of_part pkg part) (stories_from (part + 1) pkg)))
    ∙ c.loop-part.invariant

pub returns : goal.returns
returns c =
    let pkg = c.args.pkg.now in
    let now = all_borrowed c.loop-part.roots.items in
    let past : length (parts_of pkg) ≤ c.loop-part.part = omega (arith, c.parts-part-end.ensures.value, c.loop-part-test.false) in
    sym (ap (λ (es : List Element). now ++ filter (has_name (name_of c.args.word)) es) (stories_from-end pkg c.loop-part.part past) ∙ append-nil now)
    ∙ c.loop-part.invariant
