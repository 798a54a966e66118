use Rattle.std.proofs.Common.{◌∙◌, ℕ, ◌<◌, ◌+◌, List, [], ◌∷◌, ◌++◌, length, true, false, sym, ap, refl, arith, append-nil, Vec, Global}
use Rattle.redl_kinds.specs.Views.{selection_of}
use Rattle.redl_select.proofs.ChosenLaws.{one_more}
use Rattle.redl_select.proofs.chosen.numbers_of_selected.Goals as goal
use Rattle.redl_select.proofs.chosen.numbers_of_selected.Goals.{then-selects_number+in_ok-push, else-selects_number}

pub loop-place-preserved : goal.loop-place-preserved
loop-place-preserved c =
    let within : c.loop-place.place < length c.args.index.now = omega (arith, c.count-place-end.ensures) in
    let number : ℕ = c.loop-place.place + 1 in
    elim c.if-selects_number.branch [
      | then-selects_number+in_ok-push w ↦
          let more = one_more (selection_of c.args.sel.now) c.args.edits.now c.args.index.now c.loop-place.place number true within refl (λ r is above. sym w.if-selects_number.true ∙ c.selects_number.ensures r is above) in
          ap (λ (v : Vec ℕ Global). v.items) w.numbers-is ∙ w.in_ok-push.ensures.items ∙ ap (λ (l : List ℕ). l ++ number ∷ []) c.loop-place.invariant ∙ sym more
      | else-selects_number w ↦
          let more = one_more (selection_of c.args.sel.now) c.args.edits.now c.args.index.now c.loop-place.place number false within refl (λ r is above. sym w.if-selects_number.false ∙ c.selects_number.ensures r is above) in
          ap (λ (v : Vec ℕ Global). v.items) w.numbers-is ∙ c.loop-place.invariant ∙ sym (append-nil _) ∙ sym more
    ]
