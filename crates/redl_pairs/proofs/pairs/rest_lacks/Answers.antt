-- Block by block, and the last bytes again.
use Rattle.std.proofs.Common.{◌≡◌, ◌≤◌, ◌-◌, ◌∙◌, ap, sym, arith, rules, tests, true, false, ℕ, List, length, take, drop, length-drop}
use Rattle.std.proofs.lemmas.List.{drop-drop, take_rest}
use Rattle.redl_pairs.specs.Pairs.{begins_either, lacks_both}
use Rattle.redl_pairs.proofs.PairLaws.{front_holds, front_lacking, front_is_all, whole_by_last}
use Rattle.redl_pairs.proofs.pairs.rest_lacks.Goals as goal

pub returns-then-not-front_lacks : goal.returns-then-not-front_lacks
returns-then-not-front_lacks c =
    let test = begins_either c.args.a.0 c.args.a.1 c.args.b.0 c.args.b.1 in
    let front = ap (λ (u : List ℕ). lacks_both test (take 16 u) (take 16 (drop 1 u))) (take_rest c.args.text.now c.loop-i.i) in
    let holds : c.front_lacks.result ≡ false = search (rules, tests) in
    sym (front_holds test 16 (drop c.loop-i.i c.args.text.now) (sym (c.front_lacks.ensures ∙ front) ∙ holds)) ∙ c.loop-i.invariant.so_far

pub loop-i-preserved : goal.loop-i-preserved
loop-i-preserved c =
    let test = begins_either c.args.a.0 c.args.a.1 c.args.b.0 c.args.b.1 in
    let t = c.args.text.now in
    let i = c.loop-i.i in
    let front = ap (λ (u : List ℕ). lacks_both test (take 16 u) (take 16 (drop 1 u))) (take_rest t i) in
    let lacking : c.front_lacks.result ≡ true = search (rules, tests) in
    record {
      within = omega arith;
      so_far =
          ap (λ (u : List ℕ). lacks_both test u (drop 1 u)) (sym (drop-drop 16 i t))
          ∙ front_lacking test 16 (drop i t) (sym (c.front_lacks.ensures ∙ front) ∙ lacking)
          ∙ c.loop-i.invariant.so_far;
    }

pub returns : goal.returns
returns c =
    let test = begins_either c.args.a.0 c.args.a.1 c.args.b.0 c.args.b.1 in
    let t = c.args.text.now in
    let j = length t - 17 in
    let one : length (drop 16 (drop j t)) ≡ 1 = omega (arith, length-drop 16 (drop j t), length-drop j t, c.requires.long) in
    let before : j ≤ c.loop-i.i = omega (arith, c.loop-i-test.false, c.requires.long) in
    let front = ap (λ (u : List ℕ). lacks_both test (take 16 u) (take 16 (drop 1 u))) (take_rest t j) in
    c.front_lacks-2.ensures ∙ front ∙ front_is_all test 16 (drop j t) one ∙ whole_by_last test c.loop-i.i j t before c.loop-i.invariant.so_far
