use Rattle.std.proofs.Common.{drop, map}
use Rattle.std.specs.List.{flat_map}
use Rattle.std.specs.Map.Iter.{deref}
use Rattle.redl_io.proofs.Puts.{PutsSoFar}
use Rattle.redl_page.specs.Changes.{saying}
use Rattle.redl_html.specs.Pieces.{pieces_text}
use Rattle.redl_page.proofs.changes.put_sayings.Given as goal

abbrev pub invariant-loop-entry : goal.invariant-loop-entry
invariant-loop-entry g l =
    PutsSoFar g.K.Sink.told g.K.Sink.faults g.K.Sink.settled g.K.Sink.lenders l.initial.out l.out
    (pieces_text (flat_map saying (map deref l.words))) (pieces_text (flat_map saying (map deref (drop l.entry-index l.words))))
