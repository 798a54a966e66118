-- Byte by byte.
use Rattle.std.proofs.Common.{◌<◌, ◌++◌, ◌∙◌, ◌+◌, List, ℕ, ap, sym, arith, drop, get_or, length}
use Rattle.std.proofs.lemmas.List.{at_drop_more}
use Rattle.redl_numbering.specs.NumberTexts.{bullets_from}
use Rattle.redl_numbering.proofs.TextLaws.{bullets-skipped, bullets-sign, bullets-stays}
use Rattle.redl_numbering.proofs.text.put_bullets.Goals.{then-skip-gt0, else-skip-gt0+then-is_private+in_ok-extend_from_slice, else-skip-gt0+else-is_private+in_ok-push}
use Rattle.redl_numbering.proofs.text.put_bullets.Goals as goal

pub loop-place-preserved : goal.loop-place-preserved
loop-place-preserved c =
    let text = c.args.text.now in
    let i = c.loop-place.place in
    let b = get_or text i 0 in
    let rest = drop (i + 1) text in
    let out = c.loop-place.out.items in
    let more = c.if-skip-gt0.out.items in
    let skip = c.loop-place.skip in
    let now = c.if-skip-gt0.skip in
    let within : i < length text = omega arith in
    let so_far = sym (at_drop_more (λ (bs : List ℕ). out ++ bullets_from skip bs) text i 0 within) ∙ c.loop-place.invariant in
    elim c.if-skip-gt0.branch [
      | then-skip-gt0 w ↦
          bullets-skipped out more _ skip now b rest w.if-skip-gt0.true (ap (λ o. o.items) w.out-is) w.skip-is so_far
      | else-skip-gt0+then-is_private+in_ok-extend_from_slice w ↦
          bullets-sign out more _ skip now b rest w.if-skip-gt0.false (sym w.is_private.ensures ∙ w.if-is_private.true)
          (ap (λ o. o.items) w.out-is ∙ w.in_ok-extend_from_slice.ensures.items) w.skip-is so_far
      | else-skip-gt0+else-is_private+in_ok-push w ↦
          bullets-stays out more _ skip now b rest w.if-skip-gt0.false (sym w.is_private.ensures ∙ w.if-is_private.false)
          (ap (λ o. o.items) w.out-is ∙ w.in_ok-push.ensures.items) w.skip-is so_far
    ]
