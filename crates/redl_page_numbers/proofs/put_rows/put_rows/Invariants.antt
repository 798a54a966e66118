use Rattle.std.proofs.Common.{drop}
use Rattle.std.specs.List.{flat_map}
use Rattle.redl_io.proofs.Puts.{PutsSoFar}
use Rattle.redl_html.specs.Pieces.{pieces_text}
use Rattle.redl_page_numbers.specs.Pieces.{row_pieces}
use Rattle.redl_page_numbers.proofs.put_rows.put_rows.Given as goal

abbrev pub invariant-loop-row : goal.invariant-loop-row
invariant-loop-row g l =
    PutsSoFar g.K.Sink.told g.K.Sink.faults g.K.Sink.settled g.K.Sink.lenders l.initial.out l.out
    (pieces_text (flat_map row_pieces l.rows)) (pieces_text (flat_map row_pieces (drop l.row-index l.rows)))
