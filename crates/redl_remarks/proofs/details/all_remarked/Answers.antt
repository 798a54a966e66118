-- One detail more.
use Rattle.std.proofs.Common.{◌≡◌, ◌∷◌, ◌∙◌, refl, ap, sym, subst, length, rules, [], All, arith}
use Rattle.std.proofs.lemmas.List.{nil_from_length}
use Rattle.std.proofs.lemmas.List.Elements.{All-push, All-head, All-tail, All-same}
use Rattle.std.specs.Vec.Iter.{into_iter_items}
use Rattle.redl_excerpts.specs.Details.{IsDetail}
use Rattle.redl_remarks.specs.Inside.{all_remarked, remarked}
use Rattle.redl_remarks.proofs.RemarkLaws.{remarked-more, remarked-done}
use Rattle.redl_remarks.proofs.details.all_remarked.Goals as goal

pub loop-detail-init : goal.loop-detail-init
loop-detail-init c =
    let items : into_iter_items c.into_iter-detail-iterator.result ≡ c.args.details.items = search rules in
    let none : c.new-all.result.items ≡ [] = search rules in
    record {
      all = rw (none, items) refl;
      utf8 = rw none (search rules);
      left = All-same IsDetail _ _ items c.requires.details;
    }

pub remarked-requires : goal.remarked-requires
remarked-requires c =
    let here : into_iter_items c.loop-detail.detail-iterator ≡ c.in-Some.detail ∷ into_iter_items c.next.new.self = c.in-Some.ensures.steps.0 in
    record {
      detail = All-head IsDetail _ _ (All-same IsDetail _ _ (sym here) c.loop-detail.invariant.left);
      dated = c.requires.dated;
    }

pub loop-detail-preserved : goal.loop-detail-preserved
loop-detail-preserved c =
    let rest = into_iter_items c.next.new.self in
    let here : into_iter_items c.loop-detail.detail-iterator ≡ c.in-Some.detail ∷ rest = c.in-Some.ensures.steps.0 in
    let before = c.loop-detail.all.items in
    let now = c.in_ok-remarked.remarked in
    let size : c.len.result ≡ length before = omega (arith, c.len.ensures, c.loop-detail.all.ok.0) in
    record {
      all = remarked-more c.args.found.now c.args.wanted.now (all_remarked c.args.found.now c.args.wanted.now 0 c.args.details.items) before c.push.new.self.items (into_iter_items c.loop-detail.detail-iterator) rest c.in-Some.detail now here
          (c.in_ok-remarked.ensures.value ∙ ap (λ n. remarked c.args.found.now c.args.wanted.now n c.in-Some.detail) size) c.in_ok-push.ensures.items c.loop-detail.invariant.all;
      utf8 = subst (All IsDetail) (sym c.in_ok-push.ensures.items) (All-push IsDetail before now c.loop-detail.invariant.utf8 c.in_ok-remarked.ensures.utf8);
      left = All-tail IsDetail _ _ (All-same IsDetail _ _ (sym here) c.loop-detail.invariant.left);
    }

pub returns-clause-value : goal.returns-clause-value
returns-clause-value c =
    let none : into_iter_items c.loop-detail.detail-iterator ≡ [] =
    nil_from_length _ (sym c.loop-detail.detail-iterator.rest.ok.0 ∙ c.in-None.ensures.steps.0) in
    remarked-done c.args.found.now c.args.wanted.now (all_remarked c.args.found.now c.args.wanted.now 0 c.args.details.items) c.loop-detail.all.items _ none c.loop-detail.invariant.all
