use Rattle.std.proofs.Common.{◌≡◌, ◌+◌, ◌++◌, ◌∷◌, [], ◌∙◌, ap, sym, add-one, arith}
use Rattle.std.specs.List.{range_with_len}
use Rattle.redl_classes.proofs.ParentLaws.{range-more}
use Rattle.redl_classes.proofs.parents.alone.Goals as goal

pub loop-number-preserved : goal.loop-number-preserved
loop-number-preserved c =
    let more : range_with_len 0 (c.loop-number.number + 1) ≡ range_with_len 0 c.loop-number.number ++ c.loop-number.number ∷ [] =
    rw (add-one c.loop-number.number) (range-more 0 c.loop-number.number c.loop-number.number (omega arith)) in
    c.in_ok-push.ensures.items ∙ ap (λ items. items ++ c.loop-number.number ∷ []) c.loop-number.invariant ∙ sym more
