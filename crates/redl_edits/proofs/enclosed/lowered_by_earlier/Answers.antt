use Rattle.std.proofs.Common.{◌≡◌, ◌-◌, suc, inl, inr, sym, arith}
use Rattle.redl_edits.proofs.RoundLaws.{Lowering-held, Lowering-lower, Lowering-past, Lowering-same}
use Rattle.redl_edits.proofs.enclosed.lowered_by_earlier.Goals as goal
use Rattle.redl_edits.proofs.enclosed.lowered_by_earlier.Goals.{else-span-need-2-via-then-span-need-2+else-may_enclose, else-span-need-2-via-else-span-need-2, then-span-need-via-then-span-need, then-span-need-via-else-span-need+then-need-change}

pub loop-earlier-preserved-then-may_enclose : goal.loop-earlier-preserved-then-may_enclose
loop-earlier-preserved-then-may_enclose c =
    let more : c.loop-earlier.earlier ≡ suc (c.loop-earlier.earlier - 1) = omega (arith, c.loop-earlier-test.true) in
    Lowering-lower c.args.index.now c.args.change c.args.spans.now c.args.unit c.loop-earlier.need c.loop-earlier.earlier (c.loop-earlier.earlier - 1)
    c.loop-earlier.invariant more c.if-span-need-2.true (sym c.if-may_enclose.ensures) c.if-span-need.false

pub loop-earlier-preserved : goal.loop-earlier-preserved
loop-earlier-preserved c =
    let more : c.loop-earlier.earlier ≡ suc (c.loop-earlier.earlier - 1) = omega (arith, c.loop-earlier-test.true) in
    Lowering-same c.args.index.now c.args.change c.args.spans.now c.args.unit c.loop-earlier.need c.loop-earlier.earlier (c.loop-earlier.earlier - 1)
    c.loop-earlier.invariant more
    (elim c.else-span-need-2.branch [
      | else-span-need-2-via-then-span-need-2+else-may_enclose w ↦ inr (sym w.if-may_enclose.ensures)
      | else-span-need-2-via-else-span-need-2 w ↦ inl w.if-span-need-2.false
    ])

pub returns-then-span-need : goal.returns-then-span-need
returns-then-span-need c =
    let more : c.loop-earlier.earlier ≡ suc (c.loop-earlier.earlier - 1) = omega (arith, c.loop-earlier-test.true) in
    elim c.then-span-need.branch [
      | then-span-need-via-then-span-need w ↦
          Lowering-past c.args.index.now c.args.change c.args.spans.now c.args.unit c.loop-earlier.need c.loop-earlier.earlier (c.loop-earlier.earlier - 1)
          c.loop-earlier.invariant more c.requires w.if-span-need.true
      | then-span-need-via-else-span-need+then-need-change w ↦
          Lowering-held c.args.index.now c.args.change c.args.spans.now c.args.unit c.loop-earlier.need c.loop-earlier.earlier c.loop-earlier.invariant w.if-need-change.true
    ]
