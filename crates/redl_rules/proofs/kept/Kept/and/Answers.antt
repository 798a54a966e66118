use Rattle.std.proofs.Common.{◌≡◌, ◌∙◌, ◌+◌, ◌<◌, ◌&&◌, suc, Bool, false, List, length, set, get_or, ap, arith}
use Rattle.redl_rules.proofs.KeptLaws.{each_and_below, each-next}
use Rattle.redl_rules.proofs.kept.Kept.and.Goals as goal

pub loop-i-preserved : goal.loop-i-preserved
loop-i-preserved c =
    let i = c.loop-i.i in
    let xs = c.args.self.rules in
    let ys = c.args.other.rules in
    let next : suc i ≡ i + 1 = omega arith in
    let within : i < length xs = omega arith in
    let inside : i < length ys = omega arith in
    ap (λ (bs : List Bool). set bs i (get_or bs i false && get_or ys i false)) c.loop-i.invariant
    ∙ each-next i xs ys false false within inside ∙ ap (λ n. each_and_below n xs ys) next
