-- Comment by comment.
use Rattle.std.proofs.Common.{◌∙◌, ◌+◌, ◌++◌, ap, sym, arith, drop, List, Option, None, append_assoc, append-nil}
use Rattle.std.proofs.lemmas.List.{drop_more, drop_all}
use Rattle.redl_commented.specs.Ranges.{range_at, ranged_from, ranged_if}
use Rattle.redl_commented.specs.declared.range.Range.{Range}
use Rattle.redl_commented.specs.declared.range.Ranged.{Ranged}
use Rattle.redl_commented.proofs.own.ranged_of.Goals as goal

pub loop-comment-preserved : goal.loop-comment-preserved
loop-comment-preserved c =
    let own = c.args.own.now in
    let threads = c.args.threads.now in
    let i = c.loop-comment.comment in
    let more = drop (i + 1) own in
    let old = c.loop-comment.ranged.items in
    let rest = ranged_from own threads (i + 1) more in
    ap (λ (rs : List Ranged). rs ++ rest) (c.in_ok-add_ranged.ensures ∙ ap (λ (r : Option Range). old ++ ranged_if i r) c.range_at.ensures)
    ∙ append_assoc old (ranged_if i (range_at own threads i)) rest
    ∙ ap (λ (rs : List (Option Range)). old ++ ranged_from own threads i rs) (sym (drop_more own i None (omega (arith, c.loop-comment-test.true))))
    ∙ c.loop-comment.invariant

pub returns : goal.returns
returns c =
    let own = c.args.own.now in
    let now = c.loop-comment.ranged.items in
    sym (ap (λ (rs : List (Option Range)). now ++ ranged_from own c.args.threads.now c.loop-comment.comment rs) (drop_all c.loop-comment.comment own (omega (arith, c.loop-comment-test.false))) ∙ append-nil now)
    ∙ c.loop-comment.invariant
