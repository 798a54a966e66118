use Rattle.std.proofs.Common.{◌≡◌, [], List, ℕ, ap, ◌∙◌, arith, replicate, vec_len}
use Rattle.redl_left.specs.declared.fact.TheConstants.{FACTS}
use Rattle.redl_left.specs.declared.line.Line.{Line}
use Rattle.redl_left.proofs.seen.Seen.none.Goals as goal

pub returns : goal.returns
returns c =
    let all : vec_len c.loop-tables.tables ≡ FACTS = omega arith in
    let none : List Line = [] in
    c.loop-tables.invariant.empty ∙ ap (λ (n : ℕ). replicate n none) all
