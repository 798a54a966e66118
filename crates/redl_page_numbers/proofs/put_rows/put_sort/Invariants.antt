use Rattle.std.proofs.Common.{drop}
use Rattle.std.specs.List.{flat_map}
use Rattle.redl_io.proofs.Puts.{PutsSoFar}
use Rattle.redl_html.specs.Pieces.{pieces_text}
use Rattle.redl_page_numbers.specs.Pieces.{sort_list}
use Rattle.redl_page_numbers.proofs.put_rows.put_sort.Given as goal

abbrev pub invariant-loop-story : goal.invariant-loop-story
invariant-loop-story g l =
    PutsSoFar g.K.Sink.told g.K.Sink.faults g.K.Sink.settled g.K.Sink.lenders l.initial.out l.out
    (pieces_text (flat_map (sort_list l.documents) l.stories)) (pieces_text (flat_map (sort_list l.documents) (drop l.story-index l.stories)))
