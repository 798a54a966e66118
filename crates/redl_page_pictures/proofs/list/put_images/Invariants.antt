use Rattle.std.proofs.Common.{drop}
use Rattle.std.specs.List.{flat_map}
use Rattle.redl_io.proofs.Puts.{PutsSoFar}
use Rattle.redl_html.specs.Pieces.{pieces_text}
use Rattle.redl_page_pictures.specs.List.{image_item}
use Rattle.redl_page_pictures.proofs.list.put_images.Given as goal

abbrev pub invariant-loop-image : goal.invariant-loop-image
invariant-loop-image g l =
    PutsSoFar g.K.Sink.told g.K.Sink.faults g.K.Sink.settled g.K.Sink.lenders l.initial.out l.out
    (pieces_text (flat_map image_item l.images)) (pieces_text (flat_map image_item (drop l.image-index l.images)))
