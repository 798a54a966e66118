-- Place after place.
use Rattle.std.proofs.Common.{◌+◌, ◌∷◌, ◌∙◌, ap, sym, drop, arith, List, Option}
use Rattle.std.proofs.lemmas.List.{drop_more, drop_all}
use Rattle.redl_commented.specs.Inside.Founds.{found_at}
use Rattle.redl_commented.specs.Ranges.{found_after}
use Rattle.redl_commented.specs.declared.found.Found.{Found}
use Rattle.redl_spans.specs.declared.place.CommentPlace.{CommentPlace}
use Rattle.redl_commented.proofs.found.Founds.of.Goals as goal

pub loop-place-preserved : goal.loop-place-preserved
loop-place-preserved c = λ id.
    let places = c.args.places.now in
    let i = c.loop-place.place-index in
    let place = c.place-item.result in
    let more = drop (i + 1) places in
    let here = drop_more places i place (omega arith) ∙ ap (λ x. x ∷ more) (sym c.place-item.is) in
    ap (λ (found : Option Found). found_after found more id) (c.in_ok-add.ensures id)
    ∙ ap (λ (ps : List CommentPlace). found_after (found_at c.loop-place.founds id) ps id) (sym here)
    ∙ c.loop-place.invariant id

pub returns : goal.returns
returns c = λ id.
    ap (λ (ps : List CommentPlace). found_after (found_at c.loop-place.founds id) ps id) (sym (drop_all c.loop-place.place-index c.args.places.now (omega arith)))
    ∙ c.loop-place.invariant id
