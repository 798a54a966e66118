-- One detail more.
use Rattle.std.proofs.Common.{◌≡◌, ◌∷◌, ◌∙◌, refl, ap, sym, subst, length, rules, [], All, arith}
use Rattle.std.proofs.lemmas.List.{nil_from_length}
use Rattle.std.proofs.lemmas.List.Elements.{All-push, All-head, All-tail, All-same}
use Rattle.std.specs.Vec.Iter.{into_iter_items}
use Rattle.redl_excerpts.specs.Details.{IsDetail, with_clause}
use Rattle.redl_clauses.specs.Clauses.{clause_at, clauses_from}
use Rattle.redl_clauses.proofs.ClauseLaws.{clauses-more, clauses-done}
use Rattle.redl_clauses.proofs.details.with_clauses.Goals as goal

pub loop-detail-init : goal.loop-detail-init
loop-detail-init c =
    let items : into_iter_items c.into_iter-detail-iterator.result ≡ c.args.details.items = search rules in
    let none : c.new-numbered.result.items ≡ [] = search rules in
    record {
      all = rw (none, items) refl;
      utf8 = rw none (search rules);
      left = All-same IsDetail _ _ items c.requires;
    }

pub with_clause-requires : goal.with_clause-requires
with_clause-requires c =
    let here : into_iter_items c.loop-detail.detail-iterator ≡ c.in-Some.detail ∷ into_iter_items c.next.new.self = c.in-Some.ensures.steps.0 in
    record {
      detail = All-head IsDetail _ _ (All-same IsDetail _ _ (sym here) c.loop-detail.invariant.left);
      clause = c.in_ok-clause.ensures.utf8;
    }

pub loop-detail-preserved : goal.loop-detail-preserved
loop-detail-preserved c =
    let rest = into_iter_items c.next.new.self in
    let here : into_iter_items c.loop-detail.detail-iterator ≡ c.in-Some.detail ∷ rest = c.in-Some.ensures.steps.0 in
    let before = c.loop-detail.numbered.items in
    let size : c.len.result ≡ length before = omega (arith, c.len.ensures, c.loop-detail.numbered.ok.0) in
    record {
      all = clauses-more c.args.told.now (clauses_from 0 c.args.details.items c.args.told.now) before c.push.new.self.items (into_iter_items c.loop-detail.detail-iterator) rest c.in-Some.detail c.with_clause.result here
          (c.with_clause.ensures.value ∙ ap (with_clause c.in-Some.detail) (c.in_ok-clause.ensures.value ∙ ap (clause_at c.args.told.now) size)) c.in_ok-push.ensures.items c.loop-detail.invariant.all;
      utf8 = subst (All IsDetail) (sym c.in_ok-push.ensures.items) (All-push IsDetail before c.with_clause.result c.loop-detail.invariant.utf8 c.with_clause.ensures.utf8);
      left = All-tail IsDetail _ _ (All-same IsDetail _ _ (sym here) c.loop-detail.invariant.left);
    }

pub returns-clause-value : goal.returns-clause-value
returns-clause-value c =
    let none : into_iter_items c.loop-detail.detail-iterator ≡ [] =
    nil_from_length _ (sym c.loop-detail.detail-iterator.rest.ok.0 ∙ c.in-None.ensures.steps.0) in
    clauses-done c.args.told.now (clauses_from 0 c.args.details.items c.args.told.now) c.loop-detail.numbered.items _ none c.loop-detail.invariant.all
