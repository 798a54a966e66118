-- Reference after reference.
use Rattle.std.proofs.Common.{◌+◌, ◌∙◌, ap, arith, drop, filter_map, refl}
use Rattle.std.specs.BTreeSet.{contains}
use Rattle.std.specs.Ordering.{nat_cmp}
use Rattle.std.proofs.lemmas.List.{at_drop_more, at_drop_all}
use Rattle.std.proofs.lemmas.List.Elements.{filter_map-append}
use Rattle.redl_relations.specs.Leads.{lead}
use Rattle.redl_order.specs.Order.{ids, own_id, story_of_kind}
use Rattle.redl_order.specs.Borrowed.{all_borrowed}
use Rattle.redl_order.proofs.OnceLaws.{left_on, left_end}
use Rattle.redl_order.proofs.once.push_led_to.Goals as goal

pub loop-reference-init : goal.loop-reference-init
loop-reference-init c = λ tail. refl

pub loop-reference-preserved : goal.loop-reference-preserved
loop-reference-preserved c =
    let references = c.args.references.now in
    let i = c.loop-reference.reference-index in
    let r = c.reference-item.result in
    let kind = c.args.kind in
    let f = lead c.args.leads.now in
    let here = at_drop_more (ids kind) references i r (omega arith) in
    left_on (story_of_kind kind c.args.pkg.now) (contains nat_cmp c.args.seen.now) (contains nat_cmp c.loop-reference.seen) (contains nat_cmp c.push_reference.new.seen)
    (all_borrowed c.args.roots.now.items) (all_borrowed c.loop-reference.roots.items) (all_borrowed c.push_reference.new.roots.items)
    (filter_map f (ids kind references)) (filter_map f (ids kind (drop i references))) (filter_map f (own_id kind r)) (filter_map f (ids kind (drop (i + 1) references)))
    (ap (filter_map f) (rw (← c.reference-item.is) at here) ∙ filter_map-append f (own_id kind r) (ids kind (drop (i + 1) references)))
    c.loop-reference.invariant c.in_ok-push_reference.ensures

pub returns : goal.returns
returns c =
    let kind = c.args.kind in
    let f = lead c.args.leads.now in
    left_end (story_of_kind kind c.args.pkg.now) (contains nat_cmp c.args.seen.now) (contains nat_cmp c.loop-reference.seen)
    (all_borrowed c.args.roots.now.items) (all_borrowed c.loop-reference.roots.items) (filter_map f (ids kind c.args.references.now)) _
    (at_drop_all (λ rs. filter_map f (ids kind rs)) c.args.references.now c.loop-reference.reference-index (omega arith)) c.loop-reference.invariant
