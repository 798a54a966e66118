use Rattle.std.specs.List.{flat_map}
use Rattle.redl_lines.specs.Lines.{refused_line}
use Rattle.redl_io.proofs.Puts.{PutsSoFar}
use Rattle.redl_lines.proofs.lines.write_refused.Given as goal

-- the lines so far, and those of the entries that are left
abbrev pub invariant-loop-entry : goal.invariant-loop-entry
invariant-loop-entry g l =
    PutsSoFar g.K.Sink.told g.K.Sink.faults g.K.Sink.settled g.K.Sink.lenders l.initial.err l.err
    (flat_map refused_line l.refused) (flat_map refused_line l.entry-iterator)
