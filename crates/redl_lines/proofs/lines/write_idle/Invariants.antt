use Rattle.std.proofs.Common.{drop}
use Rattle.std.specs.List.{flat_map}
use Rattle.redl_lines.specs.Lines.{idle_line}
use Rattle.redl_io.proofs.Puts.{PutsSoFar}
use Rattle.redl_lines.proofs.lines.write_idle.Given as goal

-- the lines so far, and those of the locks that are left
abbrev pub invariant-loop-lock : goal.invariant-loop-lock
invariant-loop-lock g l =
    PutsSoFar g.K.Sink.told g.K.Sink.faults g.K.Sink.settled g.K.Sink.lenders l.initial.err l.err
    (flat_map idle_line l.idle) (flat_map idle_line (drop l.lock-index l.idle))
