use Rattle.std.proofs.Common.{◌≡◌, ◌++◌, ◌∷◌, [], map, ap, sym, true≢false, ◌∙◌}
use Rattle.std.specs.Str.{IsUtf8}
use Rattle.std.proofs.lemmas.List.{map_push}
use Rattle.redl_tree.specs.Model.View.{tag_of}
use Rattle.redl_opc.specs.Parts.{name_in}
use Rattle.redl_opc.specs.Inside.PartView.{part_view}
use Rattle.redl_opc.proofs.PartLaws.{tails-element, tails-more, places-element, places-bytes, parts-more}
use Rattle.redl_opc.proofs.UnnamedLaws.{parts-more as all-more, parts-text}
use Rattle.redl_opc.proofs.listing.list_parts.Goals as goal
use Rattle.redl_opc.proofs.listing.list_parts.Goals.{in-Elem+in_ok-name-in-Elem+in_ok-push-in-Elem, in-Bytes, in-Plain}

pub invariant_of-push : goal.invariant_of-push
invariant_of-push c =
    let tail : IsUtf8 (tag_of c.in-Elem.elem).tail =
    tails-element c.args.nodes.now c.loop-place.place c.index-nodes-place.result c.in-Elem.elem c.loop-place-test.true c.index-nodes-place.is c.in-Elem.is c.loop-place.invariant.tails in
    let name : IsUtf8 c.in_ok-name-in-Elem.name = c.in_ok-name-in-Elem.ensures.utf8 tail in
    record { utf8 = ∣ name ∣₁ }

pub loop-place-preserved : goal.loop-place-preserved
loop-place-preserved c =
    let nodes = c.args.nodes.now in
    let place = c.loop-place.place in
    let node = c.index-nodes-place.result in
    let within = c.loop-place-test.true in
    record {
      tails = tails-more nodes place node within c.index-nodes-place.is c.loop-place.invariant.tails;
      all = all-more nodes place node within c.index-nodes-place.is c.loop-place.invariant.all;
      parts = elim c.match-nodes-place.branch [
        | in-Elem+in_ok-name-in-Elem+in_ok-push-in-Elem w ↦
            let pushed : map part_view c.match-nodes-place.parts.items ≡ map part_view c.loop-place.parts.items ++ (place, name_in (tag_of w.in-Elem.elem)) ∷ [] =
            ap (λ parts. map part_view parts.items) w.parts-is ∙ ap (map part_view) w.in_ok-push-in-Elem.ensures.items
            ∙ map_push part_view c.loop-place.parts.items _
            ∙ ap (λ name. map part_view c.loop-place.parts.items ++ (place, name) ∷ []) w.in_ok-name-in-Elem.ensures.value in
            rw pushed (parts-more _ _ _ _ _ (places-element nodes place node w.in-Elem.elem within c.index-nodes-place.is w.in-Elem.is) c.loop-place.invariant.parts)
        | in-Bytes w ↦
            rw (w.parts-is, ← places-bytes nodes place node w.in-Bytes.field-0 within c.index-nodes-place.is w.in-Bytes.is) c.loop-place.invariant.parts
        | in-Plain w ↦
            absurd (true≢false (sym c.loop-place.invariant.all ∙ parts-text nodes place node w.in-Plain.field-0 within c.index-nodes-place.is w.in-Plain.is))
      ];
    }
