use Rattle.std.proofs.Common.{drop}
use Rattle.std.specs.List.{flat_map}
use Rattle.redl_lines.specs.Lines.{note_line}
use Rattle.redl_io.proofs.Puts.{PutsSoFar}
use Rattle.redl_lines.proofs.lines.write_notes.Given as goal

-- the lines so far, and those of the notes that are left
abbrev pub invariant-loop-note : goal.invariant-loop-note
invariant-loop-note g l =
    PutsSoFar g.K.Sink.told g.K.Sink.faults g.K.Sink.settled g.K.Sink.lenders l.initial.err l.err
    (flat_map note_line l.notes) (flat_map note_line (drop l.note-index l.notes))
