use Rattle.std.proofs.Common.{◌+◌, drop, get_or, arith, ap}
use Rattle.std.proofs.lemmas.List.{drop_more, drop_all}
use Rattle.std.specs.List.{flat_map}
use Rattle.redl_lines.specs.Lines.{note_line}
use Rattle.redl_lines.specs.declared.note.Note.{Note}
use Rattle.redl_lines.specs.declared.note.Note.TheVariants.{Undecided}
use Rattle.redl_io.proofs.Puts.{so_far_begins, so_far_goes_on, so_far_stops, so_far_ends}
use Rattle.redl_lines.proofs.lines.write_notes.Goals as goal

-- never met, since the place is among the notes
abbrev no_note : Note
no_note = Undecided 0

pub loop-note-init : goal.loop-note-init
loop-note-init g c = so_far_begins _ _

pub returns-in_err-write_note : goal.returns-in_err-write_note
returns-in_err-write_note g c =
    let notes = c.args.notes.now in
    let i = c.loop-note.note-index in
    so_far_stops (note_line (get_or notes i no_note)) (flat_map note_line (drop (i + 1) notes)) (ap (flat_map note_line) (drop_more notes i no_note (omega arith)))
    c.from_residual.ensures.1 c.loop-note.invariant c.in_err-write_note.ensures

pub loop-note-preserved : goal.loop-note-preserved
loop-note-preserved g c =
    let notes = c.args.notes.now in
    let i = c.loop-note.note-index in
    so_far_goes_on (note_line (get_or notes i no_note)) (flat_map note_line (drop (i + 1) notes)) (ap (flat_map note_line) (drop_more notes i no_note (omega arith)))
    c.loop-note.invariant c.in_ok-write_note.ensures

pub returns : goal.returns
returns g c = so_far_ends (ap (flat_map note_line) (drop_all c.loop-note.note-index c.args.notes.now (omega arith))) c.loop-note.invariant
