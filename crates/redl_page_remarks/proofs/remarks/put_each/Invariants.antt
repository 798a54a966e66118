use Rattle.std.proofs.Common.{drop}
use Rattle.redl_io.proofs.Puts.{PutsSoFar}
use Rattle.redl_html.specs.Pieces.{pieces_text}
use Rattle.redl_page_remarks.specs.Remarks.{remarks_from}
use Rattle.redl_page_remarks.proofs.remarks.put_each.Given as goal

abbrev pub invariant-loop-place : goal.invariant-loop-place
invariant-loop-place g l =
    PutsSoFar g.K.Sink.told g.K.Sink.faults g.K.Sink.settled g.K.Sink.lenders l.initial.out l.out
    (pieces_text (remarks_from l.comments l.threads 0 l.comments)) (pieces_text (remarks_from l.comments l.threads l.place (drop l.place l.comments)))
