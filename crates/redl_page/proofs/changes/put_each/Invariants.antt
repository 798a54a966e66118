use Rattle.std.proofs.Common.{drop}
use Rattle.redl_io.proofs.Puts.{PutsSoFar}
use Rattle.redl_page.specs.Changes.{changes}
use Rattle.redl_html.specs.Pieces.{pieces_text}
use Rattle.redl_page.proofs.changes.put_each.Given as goal

abbrev pub invariant-loop-place : goal.invariant-loop-place
invariant-loop-place g l =
    PutsSoFar g.K.Sink.told g.K.Sink.faults g.K.Sink.settled g.K.Sink.lenders l.initial.out l.out
    (pieces_text (changes l.book l.revisions l.locked l.said)) (pieces_text (changes l.book (drop l.place l.revisions) (drop l.place l.locked) (drop l.place l.said)))
