-- Part by part.
use Rattle.std.proofs.Common.{◌+◌, ◌<◌, ◌≤◌, ◌++◌, arith, ap, sym, ◌∙◌, length, List, filter, codes, append_assoc, append-nil}
use Rattle.std.specs.List.{flat_map}
use Rattle.std.proofs.lemmas.List.Concat.{flat_map-append}
use Rattle.std.proofs.lemmas.List.Elements.{filter-append}
use Rattle.redl_tree.specs.Model.View.{Element}
use Rattle.redl_opc.specs.Shape.{parts_of}
use Rattle.redl_opc.specs.Stories.{stories_of_part, stories_from}
use Rattle.redl_opc.proofs.WalkLaws.{stories_from-start, stories_from-part, stories_from-end}
use Rattle.redl_order.specs.Order.{has_name}
use Rattle.redl_order.specs.References.{references}
use Rattle.redl_order.specs.declared.reference.Reference.{Reference}
use Rattle.redl_order.proofs.order.document_references.Goals as goal

pub loop-part-init : goal.loop-part-init
loop-part-init c =
    let f : Element → List Reference = λ root. references root.kids in
    ap (λ (rs : List Reference). rs ++ flat_map f (filter (has_name (codes "document")) (stories_from 0 c.args.pkg.now))) c.new.ensures.items
    ∙ ap (λ (es : List Element). flat_map f (filter (has_name (codes "document")) es)) (stories_from-start c.args.pkg.now c.parts-part-end.ensures.shape)

pub loop-part-preserved : goal.loop-part-preserved
loop-part-preserved c =
    let pkg = c.args.pkg.now in
    let part = c.loop-part.part in
    let p = has_name (codes "document") in
    let f : Element → List Reference = λ root. references root.kids in
    let old = c.loop-part.seen.references.items in
    let within : part < length (parts_of pkg) = omega (arith, c.parts-part-end.ensures.value) in
    let here = filter p (stories_of_part pkg part) in
    let more = filter p (stories_from (part + 1) pkg) in
    ap (λ (rs : List Reference). rs ++ flat_map f more) c.in_ok-find_in_part.ensures
    ∙ append_assoc old (flat_map f here) (flat_map f more)
    ∙ ap (λ (rs : List Reference). old ++ rs)
    (sym (ap (λ (es : List Element). flat_map f (filter p es)) (stories_from-part pkg part within)
    ∙ ap (flat_map f) (filter-append p (stories_of_part pkg part) (stories_from (part + 1) pkg)) ∙ flat_map-append f here more))
    ∙ c.loop-part.invariant

pub returns : goal.returns
returns c =
    let pkg = c.args.pkg.now in
    let now = c.loop-part.seen.references.items in
    let f : Element → List Reference = λ root. references root.kids in
    let past : length (parts_of pkg) ≤ c.loop-part.part = omega (arith, c.parts-part-end.ensures.value, c.loop-part-test.false) in
    sym (ap (λ (es : List Element). now ++ flat_map f (filter (has_name (codes "document")) es)) (stories_from-end pkg c.loop-part.part past) ∙ append-nil now)
    ∙ c.loop-part.invariant
