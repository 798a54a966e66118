use Rattle.std.proofs.Common.{◌≡◌, ◌-◌, ◌∙◌, ℕ, List, Bor, ap, sym, arith, map, take, length}
use Rattle.std.proofs.lemmas.List.{take-map, length-map}
use Rattle.redl_relations.proofs.names.leave_last.Goals as goal

pub returns : goal.returns
returns c =
    let f : Bor (List ℕ) → List ℕ = λ step. step.now in
    let old = c.args.steps.now.items in
    let n = c.saturating_sub.result in
    let last : n ≡ length (map f old) - 1 = omega (arith, length-map {A = Bor (List ℕ)} {B = List ℕ} old f) in
    ap (map f) c.truncate.ensures.items ∙ sym (take-map f n old) ∙ ap (λ k. take k (map f old)) last
