use Rattle.std.proofs.Common.{map, drop}
use Rattle.redl_io.proofs.Puts.{PutsSoFar}
use Rattle.redl_bare.specs.BareText.{marks_text}
use Rattle.redl_bare.specs.Inside.Views.{mark_view}
use Rattle.redl_bare.proofs.stamp_text.put_list.Given as goal

abbrev pub invariant-loop-at : goal.invariant-loop-at
invariant-loop-at g l =
    PutsSoFar g.K.Sink.told g.K.Sink.faults g.K.Sink.settled g.K.Sink.lenders l.initial.out l.out (marks_text (map mark_view l.list)) (marks_text (map mark_view (drop l.at l.list)))
