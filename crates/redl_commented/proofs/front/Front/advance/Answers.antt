-- One comment more, or the first that doesn't begin before the place.
use Rattle.std.proofs.Common.{◌≡◌, ◌∙◌, ◌+◌, ◌<◌, ◌∷◌, ◌++◌, [], ap, subst, sym, arith, ℕ, List, drop, length, take}
use Rattle.std.proofs.lemmas.List.{drop_more, take_more}
use Rattle.redl_commented.specs.Inside.Fronts.{BeginBy}
use Rattle.redl_commented.specs.On.{ranked, ranked_in, start_of}
use Rattle.redl_commented.specs.Orders.{Above, Rises}
use Rattle.redl_commented.specs.declared.range.Ranged.{Ranged}
use Rattle.redl_commented.proofs.OnLaws.{begin-more, ranked-more, take-ranked}
use Rattle.redl_commented.proofs.OrderLaws.{above-front, rises-drop}
use Rattle.redl_commented.proofs.front.Front.advance.Goals as goal

pub returns-then-to-ranged-clause-above : goal.returns-then-to-ranged-clause-above
returns-then-to-ranged-clause-above c =
    let all = c.args.all.now in
    let n = c.loop-self.self.next in
    let x = c.ranged_at-ranged.result in
    let more = drop (n + 1) all in
    let here : drop n all ≡ x ∷ more = drop_more all n x (omega (arith, c.loop-self-test.true)) ∙ ap (λ (r : Ranged). r ∷ more) (sym c.ranged_at-ranged.ensures) in
    let rises : Rises start_of (x ∷ more) = subst (Rises start_of) here (rises-drop start_of n all c.requires.rises) in
    subst (Above start_of c.args.to) (sym here) (above-front start_of c.args.to x more rises (omega (arith, c.if-to-ranged.true)))

pub loop-self-preserved : goal.loop-self-preserved
loop-self-preserved c =
    let all = c.args.all.now in
    let n = c.loop-self.self.next in
    let x = c.ranged_at-ranged.result in
    let front = take n all in
    let within : n < length all = omega (arith, c.loop-self-test.true) in
    let one_more : take (n + 1) all ≡ front ++ x ∷ [] = take_more all n x within ∙ ap (λ (r : Ranged). front ++ r ∷ []) (sym c.ranged_at-ranged.ensures) in
    let next : c.rank.new.self.next + 1 ≡ n + 1 = omega (arith, c.in_ok-rank.ensures.next) in
    let before : x.range.from < c.args.to = omega (arith, c.if-to-ranged.false) in
    record {
      front = record {
        few = omega (arith, next, within);
        top = c.in_ok-rank.ensures.top ∙ ap (λ (ts : List Ranged). take 20 (ranked_in x ts)) c.loop-self.invariant.front.top
            ∙ take-ranked 20 x (ranked front)
            ∙ ap (take 20) (sym (ranked-more [] front x))
            ∙ ap (λ (rs : List Ranged). take 20 (ranked rs)) (sym one_more)
            ∙ ap (λ (m : ℕ). take 20 (ranked (take m all))) (sym next);
      };
      begin = subst (λ (m : ℕ). BeginBy c.args.to (take m all)) (sym next)
          (subst (BeginBy c.args.to) (sym one_more) (begin-more c.args.to front x c.loop-self.invariant.begin before));
    }
