use Rattle.std.proofs.Common.{◌≡◌, ◌∙◌, ap, sym, arith, rules, tests, true, false, ℕ, List, take, drop}
use Rattle.std.proofs.lemmas.List.{drop-drop, take_rest}
use Rattle.redl_pairs.specs.Pairs.{begins_either, lacks_both}
use Rattle.redl_pairs.proofs.PairLaws.{front_holds, front_lacking}
use Rattle.redl_pairs.proofs.pairs.past_blocks.Goals as goal

pub returns-then-not-block_lacks-clause-none : goal.returns-then-not-block_lacks-clause-none
returns-then-not-block_lacks-clause-none c = λ none.
    let test = begins_either c.args.a.0 c.args.a.1 c.args.b.0 c.args.b.1 in
    let front = ap (λ (u : List ℕ). lacks_both test (take 64 u) (take 64 (drop 1 u))) (take_rest c.args.text.now c.loop-i.i) in
    let holds : c.block_lacks.result ≡ false = search (rules, tests) in
    sym c.loop-i.invariant.so_far ∙ front_holds test 64 (drop c.loop-i.i c.args.text.now) (sym (c.block_lacks.ensures ∙ front) ∙ holds)

pub loop-i-preserved : goal.loop-i-preserved
loop-i-preserved c =
    let test = begins_either c.args.a.0 c.args.a.1 c.args.b.0 c.args.b.1 in
    let t = c.args.text.now in
    let i = c.loop-i.i in
    let front = ap (λ (u : List ℕ). lacks_both test (take 64 u) (take 64 (drop 1 u))) (take_rest t i) in
    let lacking : c.block_lacks.result ≡ true = search (rules, tests) in
    record {
      within = omega arith;
      so_far =
          ap (λ (u : List ℕ). lacks_both test u (drop 1 u)) (sym (drop-drop 64 i t))
          ∙ front_lacking test 64 (drop i t) (sym (c.block_lacks.ensures ∙ front) ∙ lacking)
          ∙ c.loop-i.invariant.so_far;
    }
