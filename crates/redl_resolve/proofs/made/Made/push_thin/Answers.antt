use Rattle.std.proofs.Common.{◌∷◌, [], ◌++◌, false, sym, ap, ◌∙◌, arith}
use Rattle.redl_paras.specs.Pieces.{pieces_of}
use Rattle.redl_resolve.proofs.ChainLaws.{passed_more, count-push, pieces_count-push}
use Rattle.redl_resolve.specs.Counts.{pieces_count}
use Rattle.redl_tree.proofs.Model.Laws.{nodes_of-push, count-in_front}
use Rattle.redl_tree.specs.Model.Count.{count}
use Rattle.redl_tree.specs.Decisions.Groups.{thin, grouped}
use Rattle.redl_tree.specs.Model.Nodes.{no_nodes, ◌⊕◌}
use Rattle.redl_tree.specs.Model.View.{nodes_of, item_of}
use Rattle.redl_resolve.proofs.made.Made.push_thin.Goals as goal

pub returns-then-has_no_chain-clause-whole : goal.returns-then-has_no_chain-clause-whole
returns-then-has_no_chain-clause-whole c = λ rest.
    let passed = nodes_of c.args.self.now.passed.items in
    let node = nodes_of (c.args.node ∷ []) in
    let none = c.has_no_chain.ensures.none c.if-has_no_chain.true in
    ap (λ ps. nodes_of c.push.new.self.items ⊕ grouped false (pieces_of ps ++ rest)) none
    ∙ ap (λ n. n ⊕ grouped false rest) (ap (λ xs. nodes_of xs) c.in_ok-push.ensures.items ∙ nodes_of-push _ _)
    ∙ passed_more passed node rest
    ∙ ap (λ ps. passed ⊕ grouped false (pieces_of ps ++ thin node ∷ rest)) (sym none)

pub returns-then-has_no_chain-clause-weight : goal.returns-then-has_no_chain-clause-weight
returns-then-has_no_chain-clause-weight c =
    omega (arith, ap (λ xs. count (nodes_of xs)) c.in_ok-push.ensures.items ∙ count-push c.args.self.now.passed.items c.args.node)

pub returns-clause-weight : goal.returns-clause-weight
returns-clause-weight c =
    omega (arith, ap (λ ps. pieces_count (pieces_of ps)) c.in_ok-push-2.ensures.items ∙ pieces_count-push c.args.self.now.chain.items _, count-in_front (item_of c.args.node) no_nodes)
