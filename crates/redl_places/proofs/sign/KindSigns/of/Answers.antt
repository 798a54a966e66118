-- Reference after reference.
use Rattle.std.proofs.Common.{◌+◌, ◌∷◌, ◌∙◌, ap, sym, drop, arith, List, Option}
use Rattle.std.proofs.lemmas.List.{drop_more, drop_all}
use Rattle.redl_reading.specs.Steps.{or_else}
use Rattle.redl_order.specs.declared.reference.Reference.{Reference}
use Rattle.redl_places.specs.Signs.{count_after, sign_by, sign_from}
use Rattle.redl_places.specs.Views.{sign_at}
use Rattle.redl_places.specs.declared.sign.NoteSign.{NoteSign}
use Rattle.redl_places.proofs.SignLaws.{count_few, or_nothing, or-or}
use Rattle.redl_places.proofs.sign.KindSigns.of.Goals as goal

pub loop-reference-preserved : goal.loop-reference-preserved
loop-reference-preserved c =
    let references = c.args.references.now in
    let kind = c.args.kind in
    let count = c.loop-reference.count in
    let i = c.loop-reference.reference-index in
    let r = c.reference-item.result in
    let more = drop (i + 1) references in
    let next = count_after kind count r in
    let here = drop_more references i r (omega arith) ∙ ap (λ x. x ∷ more) (sym c.reference-item.is) in
    record {
      few = let most = count_few kind count r in omega (arith, most, c.count_after-count.ensures, c.loop-reference.invariant.few);
      all = λ id.
          let old = sign_at c.loop-reference.signs id in
          ap (λ n. or_else (sign_at c.add.new.self id) (sign_from kind n more id)) c.count_after-count.ensures
          ∙ ap (λ (o : Option NoteSign). or_else o (sign_from kind next more id)) (c.in_ok-add.ensures id)
          ∙ or-or old (sign_by kind count r id) (sign_from kind next more id)
          ∙ ap (λ (rs : List Reference). or_else old (sign_from kind count rs id)) (sym here)
          ∙ c.loop-reference.invariant.all id;
    }

pub returns : goal.returns
returns c = λ id.
    let old = sign_at c.loop-reference.signs id in
    or_nothing old
    ∙ ap (λ (rs : List Reference). or_else old (sign_from c.args.kind c.loop-reference.count rs id)) (sym (drop_all c.loop-reference.reference-index c.args.references.now (omega arith)))
    ∙ c.loop-reference.invariant.all id
