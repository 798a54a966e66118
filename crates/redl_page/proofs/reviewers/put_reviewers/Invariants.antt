use Rattle.std.proofs.Common.{None, option_map}
use Rattle.redl_io.proofs.Puts.{PutsSoFar}
use Rattle.redl_page.specs.Reviewers.{items_from}
use Rattle.redl_html.specs.Pieces.{pieces_text}
use Rattle.redl_page.proofs.reviewers.put_reviewers.Given as goal

abbrev pub invariant-loop-entry : goal.invariant-loop-entry
invariant-loop-entry g l =
    PutsSoFar g.K.Sink.told g.K.Sink.faults g.K.Sink.settled g.K.Sink.lenders l.initial.out l.out
    (pieces_text (items_from None l.book)) (pieces_text (items_from (option_map (λ last. last.now) l.last) l.entry-iterator))
