-- Level by level.
use Rattle.std.proofs.Common.{◌≡◌, ◌∙◌, ◌+◌, ◌-◌, suc, ap, sym, arith}
use Rattle.redl_numbering.specs.Nums.{named_from}
use Rattle.redl_numbering.proofs.PlaceLaws.{named-later, named-here}
use Rattle.redl_numbering.proofs.used.Used.named_level.Goals as goal

pub loop-level-preserved : goal.loop-level-preserved
loop-level-preserved c =
    let k = c.loop-level.level in
    let overrides = c.args.self.now.overrides.now in
    let levels = c.args.self.now.levels.now in
    let id = c.args.id.now in
    let more : 9 - k ≡ suc (9 - (k + 1)) = omega arith in
    let next : k + 1 ≡ suc k = omega arith in
    ap (λ n. named_from overrides levels id n (9 - (k + 1))) next
    ∙ sym (named-later overrides levels id k (9 - k) (9 - (k + 1)) more (sym c.names_style.ensures ∙ c.if-names_style.false))
    ∙ c.loop-level.invariant

pub returns-then-names_style : goal.returns-then-names_style
returns-then-names_style c =
    let k = c.loop-level.level in
    let overrides = c.args.self.now.overrides.now in
    let levels = c.args.self.now.levels.now in
    let id = c.args.id.now in
    let more : 9 - k ≡ suc (9 - (k + 1)) = omega arith in
    sym (named-here overrides levels id k (9 - k) (9 - (k + 1)) more (sym c.names_style.ensures ∙ c.if-names_style.true)) ∙ c.loop-level.invariant

pub returns : goal.returns
returns c =
    let k = c.loop-level.level in
    let none : 9 - k ≡ 0 = omega arith in
    sym (ap (named_from c.args.self.now.overrides.now c.args.self.now.levels.now c.args.id.now k) none) ∙ c.loop-level.invariant
