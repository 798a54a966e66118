use Rattle.std.proofs.Common.{◌+◌, ◌++◌, ◌∷◌, [], List, sym, ap, ◌∙◌, map, arith}
use Rattle.std.proofs.lemmas.List.FromFn.{map-range_with_len_more}
use Rattle.std.specs.List.{range_with_len}
use Rattle.redl_join.specs.Verdicts.{verdict_at}
use Rattle.redl_join.specs.declared.verdict.Verdict.{Verdict}
use Rattle.redl_session.proofs.says.verdicts.Goals as goal

pub loop-before-preserved : goal.loop-before-preserved
loop-before-preserved c =
    let before = c.loop-before.before in
    let so_far : List Verdict = map (verdict_at c.args.book.now) (range_with_len 1 before) in
    c.in_ok-push.ensures.items
    ∙ ap (λ (verdicts : List Verdict). verdicts ++ c.verdict.result ∷ []) c.loop-before.invariant
    ∙ ap (λ (verdict : Verdict). so_far ++ verdict ∷ []) c.verdict.ensures
    ∙ sym (map-range_with_len_more (verdict_at c.args.book.now) 1 before (before + 1) (omega arith))
