-- Id by id.
use Rattle.std.proofs.Common.{◌≡◌, ◌∙◌, ◌+◌, ◌++◌, ◌∷◌, [], ap, sym, arith, drop, length, List, ℕ, Bool, Option, None, append_assoc, append-nil, if◌then◌else◌}
use Rattle.std.proofs.lemmas.List.{drop_more, drop_all, length_push}
use Rattle.std.specs.Prelude.{option_and_then}
use Rattle.redl_comments.specs.Threads.{place_of}
use Rattle.redl_commented.specs.Ranges.{found_in, is_at, own_range, own_ranges_from, range_found}
use Rattle.redl_commented.specs.declared.found.Found.{Found}
use Rattle.redl_commented.specs.declared.range.Range.{Range}
use Rattle.redl_commented.proofs.own.own_ranges.Goals as goal

pub loop-id-preserved : goal.loop-id-preserved
loop-id-preserved c =
    let places = c.args.places.now in
    let ids = c.args.ids.now in
    let n = c.loop-id.id-index in
    let id : List ℕ = c.id-item.result in
    let more = drop (n + 1) ids in
    let old = c.loop-id.own.items in
    let rest = own_ranges_from places ids (n + 1) more in
    let here : drop n ids ≡ id ∷ more = drop_more ids n id (omega arith) ∙ ap (λ (i : List ℕ). i ∷ more) (sym c.id-item.is) in
    let size : c.len.result ≡ n = omega (arith, c.len.ensures, c.loop-id.own.ok.0, c.loop-id.invariant.count) in
    let first : c.is_at-first.result ≡ is_at n (place_of ids id) =
    c.is_at-first.ensures ∙ ap (λ (k : ℕ). is_at k c.place.result) size
    ∙ ap (is_at n) (c.place.ensures ids c.in_ok-firsts.ensures ∙ ap (place_of ids) c.as_bytes.ensures) in
    let found : c.at.result ≡ found_in places id =
    c.at.ensures ∙ c.in_ok-founds.ensures c.as_bytes-in-loop-id.result.now ∙ ap (found_in places) c.as_bytes-in-loop-id.ensures in
    let range : c.in_ok-own_range.field-0 ≡ own_range places ids n id =
    c.in_ok-own_range.ensures ∙ ap (λ (b : Bool). if b then option_and_then range_found c.at.result else None) first
    ∙ ap (λ (f : Option Found). if is_at n (place_of ids id) then option_and_then range_found f else None) found in
    record {
      count = ap length c.in_ok-push.ensures.items ∙ length_push old c.in_ok-own_range.field-0 ∙ ap (λ (k : ℕ). k + 1) c.loop-id.invariant.count;
      all = ap (λ (rs : List (Option Range)). rs ++ rest) (c.in_ok-push.ensures.items ∙ ap (λ (r : Option Range). old ++ r ∷ []) range)
          ∙ append_assoc old (own_range places ids n id ∷ []) rest
          ∙ ap (λ (is : List (List ℕ)). old ++ own_ranges_from places ids n is) (sym here)
          ∙ c.loop-id.invariant.all;
    }

pub returns : goal.returns
returns c =
    let places = c.args.places.now in
    let ids = c.args.ids.now in
    let now = c.loop-id.own.items in
    sym (ap (λ (rest : List (List ℕ)). now ++ own_ranges_from places ids c.loop-id.id-index rest) (drop_all c.loop-id.id-index ids (omega arith)) ∙ append-nil now)
    ∙ c.loop-id.invariant.all
