-- One detail more.
use Rattle.std.proofs.Common.{◌≡◌, ◌∷◌, ◌∙◌, refl, ap, sym, subst, length, rules, [], All, arith}
use Rattle.std.proofs.lemmas.List.{nil_from_length}
use Rattle.std.proofs.lemmas.List.Elements.{All-push, All-head, All-tail, All-same}
use Rattle.std.specs.Vec.Iter.{into_iter_items}
use Rattle.redl_excerpts.specs.Details.{IsDetail}
use Rattle.redl_remarks.specs.Remarked.{edited, edited_from}
use Rattle.redl_remarks.proofs.EditedLaws.{edited-more, edited-done}
use Rattle.redl_remarks.proofs.edited.with_edits.Goals as goal

pub loop-detail-init : goal.loop-detail-init
loop-detail-init c =
    let items : into_iter_items c.into_iter-detail-iterator.result ≡ c.args.details.items = search rules in
    let none : c.new-all.result.items ≡ [] = search rules in
    record {
      all = rw (none, items) refl;
      utf8 = rw none (search rules);
      left = All-same IsDetail _ _ items c.requires;
    }

pub edited-edited-requires : goal.edited-edited-requires
edited-edited-requires c =
    let here : into_iter_items c.loop-detail.detail-iterator ≡ c.in-Some.detail ∷ into_iter_items c.next.new.self = c.in-Some.ensures.steps.0 in
    All-head IsDetail _ _ (All-same IsDetail _ _ (sym here) c.loop-detail.invariant.left)

pub loop-detail-preserved : goal.loop-detail-preserved
loop-detail-preserved c =
    let rest = into_iter_items c.next.new.self in
    let here : into_iter_items c.loop-detail.detail-iterator ≡ c.in-Some.detail ∷ rest = c.in-Some.ensures.steps.0 in
    let edits = c.args.edits.now in
    let hidden = c.args.hidden.now in
    let before = c.loop-detail.all.items in
    let size : c.len.result ≡ length before = omega (arith, c.len.ensures, c.loop-detail.all.ok.0) in
    record {
      all = edited-more edits hidden (edited_from edits hidden 0 c.args.details.items) before c.push.new.self.items (into_iter_items c.loop-detail.detail-iterator) rest c.in-Some.detail c.edited-edited.result here
          (c.edited-edited.ensures.value ∙ ap (λ n. edited edits hidden n c.in-Some.detail) size) c.in_ok-push.ensures.items c.loop-detail.invariant.all;
      utf8 = subst (All IsDetail) (sym c.in_ok-push.ensures.items) (All-push IsDetail before c.edited-edited.result c.loop-detail.invariant.utf8 c.edited-edited.ensures.utf8);
      left = All-tail IsDetail _ _ (All-same IsDetail _ _ (sym here) c.loop-detail.invariant.left);
    }

pub returns-clause-value : goal.returns-clause-value
returns-clause-value c =
    let none : into_iter_items c.loop-detail.detail-iterator ≡ [] =
    nil_from_length _ (sym c.loop-detail.detail-iterator.rest.ok.0 ∙ c.in-None.ensures.steps.0) in
    edited-done c.args.edits.now c.args.hidden.now (edited_from c.args.edits.now c.args.hidden.now 0 c.args.details.items) c.loop-detail.all.items _ none c.loop-detail.invariant.all
