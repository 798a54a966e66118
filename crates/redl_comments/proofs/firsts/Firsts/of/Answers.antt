-- Key after key.
use Rattle.std.proofs.Common.{◌+◌, ◌∷◌, ◌∙◌, ap, sym, drop, arith, bytes_eq, List, ℕ, Option, Some, None, if◌then◌else◌}
use Rattle.std.proofs.lemmas.List.{drop_more, drop_all}
use Rattle.redl_reading.specs.Steps.{or_else}
use Rattle.redl_comments.specs.Firsts.{place_at}
use Rattle.redl_comments.specs.Threads.{place_from}
use Rattle.redl_comments.proofs.FirstLaws.{or_nothing, place_here}
use Rattle.redl_comments.proofs.firsts.Firsts.of.Goals as goal

pub loop-place-preserved : goal.loop-place-preserved
loop-place-preserved c = λ key.
    let keys = c.args.keys.now in
    let place = c.loop-place.place in
    let own : List ℕ = c.index-keys-place.result in
    let more = drop (place + 1) keys in
    let old = place_at c.loop-place.firsts key in
    let here = drop_more keys place own (omega arith) ∙ ap (λ (k : List ℕ). k ∷ more) (sym c.index-keys-place.is) in
    ap (λ (o : Option ℕ). or_else o (place_from (place + 1) more key))
    (c.in_ok-add.ensures key ∙ ap (λ (k : List ℕ). or_else old (if bytes_eq k key then Some place else None)) c.as_bytes.ensures)
    ∙ place_here place own more key old
    ∙ ap (λ (ks : List (List ℕ)). or_else old (place_from place ks key)) (sym here)
    ∙ c.loop-place.invariant key

pub returns : goal.returns
returns c = λ key.
    let old = place_at c.loop-place.firsts key in
    or_nothing old
    ∙ ap (λ (keys : List (List ℕ)). or_else old (place_from c.loop-place.place keys key)) (sym (drop_all c.loop-place.place c.args.keys.now (omega arith)))
    ∙ c.loop-place.invariant key
