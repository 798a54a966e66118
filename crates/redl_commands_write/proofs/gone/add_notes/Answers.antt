use Rattle.std.proofs.Common.{◌≡◌, ◌∙◌, ◌+◌, ◌++◌, ◌∷◌, [], List, sym, ap, take, get_or, arith}
use Rattle.std.proofs.lemmas.List.{take_more}
use Rattle.redl_commands.specs.Notes.{noting_gone}
use Rattle.redl_lines.specs.Remarks.{Remarks, remarks_view}
use Rattle.redl_lines.specs.declared.note.Note.{Note}
use Rattle.redl_commands_write.proofs.GoneLaws.{noted_more, noted_same}
use Rattle.redl_commands_write.proofs.gone.add_notes.Goals as goal
use Rattle.redl_commands_write.proofs.gone.add_notes.Goals.{then-not-contains+in_ok-push, else-not-contains}

pub loop-number-preserved : goal.loop-number-preserved
loop-number-preserved c nodes same =
    let numbers = c.args.numbers.now in
    let i = c.loop-number.number-index in
    let last = get_or numbers i 0 in
    let start : Remarks = remarks_view c.args.remarks.now in
    let more : take (i + 1) numbers ≡ take i numbers ++ last ∷ [] = take_more numbers i 0 (omega arith) in
    let so_far : remarks_view c.loop-number.remarks ≡ noting_gone nodes (take i numbers) start = c.loop-number.invariant nodes same in
    elim c.if-not-contains.branch [
      | then-not-contains+in_ok-push w ↦
          ap remarks_view w.remarks-is
          ∙ ap (λ (ns : List Note). record (remarks_view c.loop-number.remarks) { notes = ns }) w.in_ok-push.ensures.items
          ∙ noted_more nodes (take i numbers) (take (i + 1) numbers) last start (remarks_view c.loop-number.remarks) more (sym (same last) ∙ sym w.if-not-contains.ensures) so_far
      | else-not-contains w ↦
          ap remarks_view w.remarks-is ∙ so_far
          ∙ noted_same nodes (take i numbers) (take (i + 1) numbers) last start more (sym (same last) ∙ sym w.if-not-contains.ensures)
    ]
