use Rattle.std.proofs.Common.{ap, sym, ◌∙◌, ◌+◌, ◌∷◌, arith, drop}
use Rattle.std.proofs.lemmas.List.{drop_more, drop_all}
use Rattle.std.specs.List.{flat_map}
use Rattle.redl_io.proofs.Puts.{so_far_goes_on, so_far_stops, so_far_ends}
use Rattle.redl_html.specs.Pieces.{pieces_text}
use Rattle.redl_page_pictures.specs.List.{image_item}
use Rattle.redl_page_pictures.proofs.ListLaws.{images-more}
use Rattle.redl_page_pictures.proofs.list.put_images.Goals as goal

pub returns-in_err-put_image : goal.returns-in_err-put_image
returns-in_err-put_image g c =
    let all = c.args.images.now in
    let i = c.loop-image.image-index in
    let image = c.image-item.result in
    so_far_stops (pieces_text (image_item image)) (pieces_text (flat_map image_item (drop (i + 1) all)))
    (ap (λ xs. pieces_text (flat_map image_item xs)) (drop_more all i image (omega arith) ∙ ap (λ x. x ∷ drop (i + 1) all) (sym c.image-item.is)) ∙ images-more image (drop (i + 1) all))
    c.from_residual.ensures.1 c.loop-image.invariant c.in_err-put_image.ensures

pub loop-image-preserved : goal.loop-image-preserved
loop-image-preserved g c =
    let all = c.args.images.now in
    let i = c.loop-image.image-index in
    let image = c.image-item.result in
    so_far_goes_on (pieces_text (image_item image)) (pieces_text (flat_map image_item (drop (i + 1) all)))
    (ap (λ xs. pieces_text (flat_map image_item xs)) (drop_more all i image (omega arith) ∙ ap (λ x. x ∷ drop (i + 1) all) (sym c.image-item.is)) ∙ images-more image (drop (i + 1) all))
    c.loop-image.invariant c.in_ok-put_image.ensures

pub returns : goal.returns
returns g c = so_far_ends (ap (λ xs. pieces_text (flat_map image_item xs)) (drop_all c.loop-image.image-index c.args.images.now (omega arith))) c.loop-image.invariant
