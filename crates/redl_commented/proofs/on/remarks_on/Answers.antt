-- Both lists are in order, and no revision has a comment before.
use Rattle.std.proofs.Common.{◌∙◌, ◌+◌, ap, subst, sym, List, ℕ, filter, slice_get}
use Rattle.std.specs.List.Sorted.{IsNonDecreasingBy}
use Rattle.std.specs.Option.{option_map}
use Rattle.redl_spans.specs.declared.span.Span.{Span}
use Rattle.redl_commented.specs.Inside.Fronts.{AreEnds}
use Rattle.redl_commented.specs.On.{Remarks, all_remarked, end_of, is_of, start_of}
use Rattle.redl_commented.specs.Orders.{Rises, in_order}
use Rattle.redl_commented.specs.declared.range.Ranged.{Ranged}
use Rattle.redl_commented.proofs.OnLaws.{nothing-kept}
use Rattle.redl_commented.proofs.OrderLaws.{in_order-rises}
use Rattle.redl_commented.proofs.on.remarks_on.Goals as goal

pub remark_all-requires : goal.remark_all-requires
remark_all-requires c = record {
  starts = subst (Rises start_of) (sym (c.deref-2.ensures.value ∙ c.in_ok-comments.ensures)) (in_order-rises start_of c.args.all.items);
  order = subst (IsNonDecreasingBy (λ end. end)) (sym c.deref-3.ensures.value) c.in_ok-ends.ensures.order;
  ends = subst (λ (es : List ℕ). AreEnds es c.deref-2.result.now) (sym c.deref-3.ensures.value)
      (subst (AreEnds c.in_ok-ends.ends.items) (c.deref.ensures.value ∙ sym c.deref-2.ensures.value) c.in_ok-ends.ensures.ends);
  members = subst (Rises end_of) (sym (c.deref-4.ensures.value ∙ c.in_ok-members.ensures)) (in_order-rises end_of c.args.spans.now);
}

pub returns : goal.returns
returns c = λ k less.
    let all = in_order start_of c.args.all.items in
    let spans = in_order end_of c.args.spans.now in
    c.in_ok-remark_all.ensures k
    ∙ ap (λ (rs : List Ranged). option_map (λ (remarks : Remarks). all_remarked rs remarks (filter (is_of (k + 1)) c.deref-4.result.now)) (slice_get c.in_ok-on.on.items k)) (c.deref-2.ensures.value ∙ c.in_ok-comments.ensures)
    ∙ ap (λ (ss : List Span). option_map (λ (remarks : Remarks). all_remarked all remarks (filter (is_of (k + 1)) ss)) (slice_get c.in_ok-on.on.items k)) (c.deref-4.ensures.value ∙ c.in_ok-members.ensures)
    ∙ ap (option_map (λ (remarks : Remarks). all_remarked all remarks (filter (is_of (k + 1)) spans))) (ap (λ (on : List Remarks). slice_get on k) c.in_ok-on.ensures ∙ nothing-kept c.args.revisions k less)
