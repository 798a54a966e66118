-- One detail more.
use Rattle.std.proofs.Common.{◌≡◌, ◌+◌, ◌^◌, ◌∷◌, ◌∙◌, ap, sym, subst, length, map, rules, [], All, arith}
use Rattle.std.proofs.lemmas.List.{nil_from_length}
use Rattle.std.proofs.lemmas.List.Elements.{All-push}
use Rattle.std.specs.Map.Iter.{deref}
use Rattle.std.specs.Vec.Iter.{into_iter_items}
use Rattle.redl_join.specs.LastWords.{words_on}
use Rattle.redl_places.specs.Views.{place_at}
use Rattle.redl_excerpts.specs.Details.{IsDetail, detail_if, details_of}
use Rattle.redl_excerpts.proofs.DetailLaws.{count-more, details-begun, details-done, details-more}
use Rattle.redl_excerpts.proofs.detail.details.Goals as goal

pub loop-excerpt-init : goal.loop-excerpt-init
loop-excerpt-init c =
    let items : into_iter_items c.into_iter-excerpt-iterator.result ≡ c.args.excerpts.items = search rules in
    let none : c.new-details.result.items ≡ [] = search rules in
    let begun = details-begun c.new-details.result.items _ c.args.excerpts.items (place_at c.args.places.now) (words_on c.args.words.now) (2 ^ 32) none items c.requires in
    record {
      all = begun.0;
      utf8 = rw none (search rules);
      within = begun.1;
    }

pub loop-excerpt-preserved : goal.loop-excerpt-preserved
loop-excerpt-preserved c =
    let rest = into_iter_items c.next.new.self in
    let excerpt = c.in-Some.excerpt in
    let here : into_iter_items c.loop-excerpt.excerpt-iterator ≡ excerpt ∷ rest = c.in-Some.ensures.steps.0 in
    let detail = c.in_ok-detail.detail in
    let before = c.loop-excerpt.details.items in
    let places = place_at c.args.places.now in
    let size : c.len.result ≡ length before = omega (arith, c.len.ensures, c.loop-excerpt.details.ok.0) in
    record {
      all = details-more before c.push.new.self.items (details_of c.args.excerpts.items places (words_on c.args.words.now)) (into_iter_items c.loop-excerpt.excerpt-iterator) rest places (words_on c.args.words.now) excerpt detail here
          (c.in_ok-detail.ensures.value ∙ ap (λ p. detail_if excerpt p (map deref c.on-in-loop-excerpt.result.now)) c.on.ensures ∙ ap (detail_if excerpt (places (c.len.result + 1))) c.on-in-loop-excerpt.ensures
          ∙ ap (λ n. detail_if excerpt (places (n + 1)) (words_on c.args.words.now (n + 1))) size) c.in_ok-push.ensures.items c.loop-excerpt.invariant.all;
      utf8 = subst (All IsDetail) (sym c.in_ok-push.ensures.items) (All-push IsDetail before detail c.loop-excerpt.invariant.utf8 c.in_ok-detail.ensures.utf8);
      within = count-more before c.push.new.self.items _ rest excerpt detail (2 ^ 32) here c.in_ok-push.ensures.items c.loop-excerpt.invariant.within;
    }

pub returns-clause-value : goal.returns-clause-value
returns-clause-value c =
    let none : into_iter_items c.loop-excerpt.excerpt-iterator ≡ [] =
    nil_from_length _ (sym c.loop-excerpt.excerpt-iterator.rest.ok.0 ∙ c.in-None.ensures.steps.0) in
    details-done c.loop-excerpt.details.items _ _ (place_at c.args.places.now) (words_on c.args.words.now) none c.loop-excerpt.invariant.all
