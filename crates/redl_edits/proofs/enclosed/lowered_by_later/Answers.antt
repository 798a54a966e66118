use Rattle.std.proofs.Common.{◌+◌, inl, inr, subst, sym, take}
use Rattle.redl_edits.specs.Inside.Rounds.{LowersLater}
use Rattle.redl_edits.proofs.BesideLaws.{none}
use Rattle.redl_edits.proofs.RoundLaws.{Later-lower-at, Later-same-at}
use Rattle.redl_edits.proofs.enclosed.lowered_by_later.Goals as goal
use Rattle.redl_edits.proofs.enclosed.lowered_by_later.Goals.{then-span-need+then-may_enclose, else-span-need, else-span-need-via-then-span-need+else-may_enclose, else-span-need-via-else-span-need}

pub loop-span-preserved : goal.loop-span-preserved
loop-span-preserved c =
    elim c.if-span-need.branch [
      | then-span-need+then-may_enclose w ↦
          subst (LowersLater c.args.index.now c.args.change (take (c.loop-span.span-index + 1) c.args.later.now)) (sym w.need-is)
          (Later-lower-at c.args.index.now c.args.change c.args.later.now c.loop-span.span-index c.loop-span.need c.loop-span.invariant c.loop-span-test.true
          w.if-span-need.true (sym w.if-may_enclose.ensures) (c.requires c.loop-span.span-index none c.loop-span-test.true))
      | else-span-need w ↦
          subst (LowersLater c.args.index.now c.args.change (take (c.loop-span.span-index + 1) c.args.later.now)) (sym w.need-is)
          (Later-same-at c.args.index.now c.args.change c.args.later.now c.loop-span.span-index c.loop-span.need c.loop-span.invariant c.loop-span-test.true
          (elim w.else-span-need.branch [
            | else-span-need-via-then-span-need+else-may_enclose w' ↦ inr (sym w'.if-may_enclose.ensures)
            | else-span-need-via-else-span-need w' ↦ inl w'.if-span-need.false
          ]))
    ]
