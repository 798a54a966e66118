-- Part by part.
use Rattle.std.proofs.Common.{◌+◌, ◌<◌, ◌≤◌, ◌++◌, arith, ap, sym, ◌∙◌, length, List, filter, append_assoc, append-nil}
use Rattle.std.specs.List.{flat_map}
use Rattle.std.proofs.lemmas.List.Concat.{flat_map-append}
use Rattle.std.proofs.lemmas.List.Elements.{filter-append}
use Rattle.redl_tree.specs.Model.View.{Element}
use Rattle.redl_opc.specs.Shape.{parts_of}
use Rattle.redl_opc.specs.Stories.{stories_of_part, stories_from}
use Rattle.redl_opc.proofs.WalkLaws.{stories_from-start, stories_from-part, stories_from-end}
use Rattle.redl_order.specs.Order.{has_id, notes_of}
use Rattle.redl_order.specs.Inside.Places.{notes_at}
use Rattle.redl_order.proofs.notes.notes.Goals as goal

pub loop-part-init : goal.loop-part-init
loop-part-init c = λ id.
    let f : Element → List Element = λ root. notes_of c.args.note root.kids in
    ap (λ (es : List Element). es ++ filter (has_id id) (flat_map f (stories_from 0 c.args.pkg.now))) (c.none-found.ensures id)
    ∙ ap (λ (es : List Element). filter (has_id id) (flat_map f es)) (stories_from-start c.args.pkg.now c.parts-part-end.ensures.shape)

pub loop-part-preserved : goal.loop-part-preserved
loop-part-preserved c = λ id.
    let pkg = c.args.pkg.now in
    let part = c.loop-part.part in
    let f : Element → List Element = λ root. notes_of c.args.note root.kids in
    let p = has_id id in
    let old = notes_at c.loop-part.found id in
    let within : part < length (parts_of pkg) = omega (arith, c.parts-part-end.ensures.value) in
    let here = flat_map f (stories_of_part pkg part) in
    let more = flat_map f (stories_from (part + 1) pkg) in
    ap (λ (es : List Element). es ++ filter p more) (c.in_ok-add_part.ensures id)
    ∙ append_assoc old (filter p here) (filter p more)
    ∙ ap (λ (es : List Element). old ++ es)
    (sym (ap (λ (es : List Element). filter p (flat_map f es)) (stories_from-part pkg part within)
    ∙ ap (filter p) (flat_map-append f (stories_of_part pkg part) (stories_from (part + 1) pkg)) ∙ filter-append p here more))
    ∙ c.loop-part.invariant id

pub returns : goal.returns
returns c = λ id.
    let pkg = c.args.pkg.now in
    let now = notes_at c.loop-part.found id in
    let f : Element → List Element = λ root. notes_of c.args.note root.kids in
    let past : length (parts_of pkg) ≤ c.loop-part.part = omega (arith, c.parts-part-end.ensures.value, c.loop-part-test.false) in
    sym (ap (λ (es : List Element). now ++ filter (has_id id) (flat_map f es)) (stories_from-end pkg c.loop-part.part past) ∙ append-nil now)
    ∙ c.loop-part.invariant id
