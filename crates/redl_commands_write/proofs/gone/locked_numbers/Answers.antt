use Rattle.std.proofs.Common.{◌≡◌, ◌∙◌, ◌+◌, ◌++◌, ◌∷◌, [], List, ℕ, true, false, append-nil, sym, ap, take, arith}
use Rattle.std.proofs.lemmas.List.{take_more}
use Rattle.redl_commands.specs.Notes.{locked_numbers}
use Rattle.redl_index.specs.declared.revision.Revision.{Revision}
use Rattle.redl_commands_write.proofs.GoneLaws.{locked_more}
use Rattle.redl_commands_write.proofs.gone.locked_numbers.Goals as goal
use Rattle.redl_commands_write.proofs.gone.locked_numbers.Goals.{then-any_holds+in_ok-push, else-any_holds}

pub loop-revision-preserved : goal.loop-revision-preserved
loop-revision-preserved c =
    let locks = c.args.locks.now in
    let revisions = c.args.revisions.now in
    let i = c.loop-revision.revision-index in
    let last : Revision = c.revision-item.result in
    let so_far : List ℕ = c.loop-revision.numbers.items in
    let more : take (i + 1) revisions ≡ take i revisions ++ last ∷ [] =
    take_more revisions i last (omega arith) ∙ ap (λ (one : Revision). take i revisions ++ one ∷ []) (sym c.revision-item.is) in
    elim c.if-any_holds.branch [
      | then-any_holds+in_ok-push w ↦
          ap (λ numbers. numbers.items) w.numbers-is ∙ w.in_ok-push.ensures.items
          ∙ ap (λ (ns : List ℕ). ns ++ last.number ∷ []) c.loop-revision.invariant
          ∙ sym (locked_more locks (take i revisions) (take (i + 1) revisions) last true more (sym w.if-any_holds.ensures))
      | else-any_holds w ↦
          ap (λ numbers. numbers.items) w.numbers-is ∙ c.loop-revision.invariant
          ∙ sym (locked_more locks (take i revisions) (take (i + 1) revisions) last false more (sym w.if-any_holds.ensures) ∙ append-nil (locked_numbers locks (take i revisions)))
    ]
