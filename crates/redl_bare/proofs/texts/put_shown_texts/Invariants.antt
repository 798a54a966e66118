use Rattle.std.proofs.Common.{length, map}
use Rattle.redl_shown.specs.Shown.{shown, shown_from}
use Rattle.redl_bare.specs.Units.{byte, in_marks}
use Rattle.redl_bare.specs.Inside.Views.{marks_view}
use Rattle.redl_bare.proofs.LineLaws.{UnitsSoFar}
use Rattle.redl_bare.proofs.texts.put_shown_texts.Given as goal

abbrev pub invariant-loop-step : goal.invariant-loop-step
invariant-loop-step g l =
    let marks = marks_view l.initial.writer.marks in
    UnitsSoFar g.K.Sink.told g.K.Sink.faults g.K.Sink.settled g.K.Sink.lenders l.initial.writer l.writer (in_marks marks (map byte (shown l.bytes)))
    (in_marks marks (map byte (shown_from l.here l.left)))

abbrev pub decreases-loop-step : goal.decreases-loop-step
decreases-loop-step g l = length l.left
