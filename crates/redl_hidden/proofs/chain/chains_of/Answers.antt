-- After all rounds.
use Rattle.std.proofs.Common.{◌≡◌, ◌∙◌, ap, arith}
use Rattle.redl_hidden.specs.Inside.Chains.{first_links, link_at, rounds, said_by}
use Rattle.redl_hidden.proofs.ChainLaws.{all_of_chain}
use Rattle.redl_hidden.proofs.chain.chains_of.Goals as goal

pub returns : goal.returns
returns c = λ place.
    let styles = c.args.styles.now in
    let all : c.loop.counter ≡ 32 = omega arith in
    ap (λ links. said_by (link_at links place)) (c.loop.invariant ∙ ap (λ n. rounds n (first_links styles)) all)
    ∙ all_of_chain styles place
