use Rattle.std.proofs.Common.{◌≡◌, ◌≤◌, ◌+◌, ◌++◌, ◌∷◌, [], List, sym, ap, ◌∙◌, map, length, arith}
use Rattle.std.proofs.lemmas.List.{length-set, take_all, take_more_set}
use Rattle.std.proofs.lemmas.List.FromFn.{map-range_with_len_more}
use Rattle.std.specs.List.{range_with_len}
use Rattle.redl_join.specs.Verdicts.{verdict_at}
use Rattle.redl_tree.specs.declared.kinds.Say.{Say}
use Rattle.redl_session.specs.Says.{say_of_verdict}
use Rattle.redl_session.proofs.says.decide.Goals as goal

pub loop-before-preserved : goal.loop-before-preserved
loop-before-preserved c =
    let before = c.loop-before.before in
    let so_far : List Say = map (λ rev. say_of_verdict (verdict_at c.args.book.now rev)) (range_with_len 1 before) in
    record {
      same_length = simp length-set c.loop-before.invariant.same_length;
      decided = take_more_set c.loop-before.says.items before c.say_of.result (omega arith)
          ∙ ap (λ (says : List Say). says ++ c.say_of.result ∷ []) c.loop-before.invariant.decided
          ∙ ap (λ (say : Say). so_far ++ say ∷ []) (c.say_of.ensures ∙ ap say_of_verdict c.verdict.ensures)
          ∙ sym (map-range_with_len_more (λ rev. say_of_verdict (verdict_at c.args.book.now rev)) 1 before (before + 1) (omega arith));
    }

pub returns : goal.returns
returns c =
    let done : c.loop-before.before ≡ c.args.count = omega arith in
    let within : length c.loop-before.says.items ≤ c.args.count = omega arith in
    sym (take_all c.args.count c.loop-before.says.items within) ∙ (rw done at c.loop-before.invariant.decided)
