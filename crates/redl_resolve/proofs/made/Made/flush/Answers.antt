use Rattle.std.proofs.Common.{sym, ap, ◌∙◌}
use Rattle.redl_paras.specs.Pieces.{pieces_of, is_other}
use Rattle.redl_tree.proofs.Model.Laws.{⊕-no_nodes, nodes_of-append}
use Rattle.redl_tree.specs.Decisions.Groups.{grouped}
use Rattle.redl_tree.specs.Model.Nodes.{◌⊕◌}
use Rattle.redl_tree.specs.Model.View.{nodes_of}
use Rattle.redl_resolve.proofs.made.Made.flush.Goals as goal

pub returns-then-has_no_chain-clause-passed : goal.returns-then-has_no_chain-clause-passed
returns-then-has_no_chain-clause-passed c =
    let passed = nodes_of c.args.self.now.passed.items in
    sym (⊕-no_nodes passed) ∙ ap (λ ps. passed ⊕ grouped (is_other c.args.next) (pieces_of ps)) (sym (c.has_no_chain.ensures.none c.if-has_no_chain.true))

pub returns-clause-passed : goal.returns-clause-passed
returns-clause-passed c =
    let passed = nodes_of c.args.self.now.passed.items in
    ap nodes_of c.in_ok-append.ensures.items ∙ nodes_of-append _ _
    ∙ ap (λ n. passed ⊕ n) (c.in_ok-group.ensures.whole ∙ ap (λ v. grouped (is_other c.args.next) (pieces_of v.items)) c.replace-chain.ensures.value)
