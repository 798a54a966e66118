use Rattle.std.proofs.Common.{◌≡◌, ◌-◌, suc, sym, subst, ◌∙◌, arith}
use Rattle.redl_edits.specs.Inside.Reaches.{IsDark}
use Rattle.redl_edits.proofs.DarkLaws.{IsDark-blank, IsDark-here}
use Rattle.redl_edits.proofs.dark.dark_from.Goals as goal

pub loop-unit-preserved : goal.loop-unit-preserved
loop-unit-preserved c =
    let more : c.loop-unit.unit ≡ suc (c.loop-unit.unit - 1) = omega (arith, c.loop-unit-test.true) in
    record {
      few = omega (arith, c.loop-unit-test.true);
      dark = IsDark-blank c.args.passed.now (c.loop-unit.unit - 1) c.loop-unit.unit c.loop-unit.found more c.loop-unit.invariant.dark (sym c.is_blank.ensures ∙ c.if-not-is_blank.false);
    }

pub loop-unit-preserved-then-not-is_blank : goal.loop-unit-preserved-then-not-is_blank
loop-unit-preserved-then-not-is_blank c =
    let more : c.loop-unit.unit ≡ suc (c.loop-unit.unit - 1) = omega (arith, c.loop-unit-test.true) in
    record {
      few = omega (arith, c.loop-unit-test.true);
      dark = IsDark-here c.args.passed.now (c.loop-unit.unit - 1) c.loop-unit.unit c.loop-unit.found more c.loop-unit.invariant.dark (sym c.is_blank.ensures ∙ c.if-not-is_blank.true);
    }

pub returns : goal.returns
returns c =
    let over : c.loop-unit.unit ≡ c.args.from = omega (arith, c.loop-unit-test.false, c.loop-unit.invariant.few) in
    subst (λ unit. IsDark c.args.passed.now unit c.loop-unit.found) over c.loop-unit.invariant.dark
