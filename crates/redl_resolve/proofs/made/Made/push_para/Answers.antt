use Rattle.std.proofs.Common.{◌≡◌, ◌∷◌, [], ◌++◌, false, None, refl, sym, ap, ◌∙◌, arith, append_assoc}
use Rattle.redl_paras.specs.Pieces.{pieces_of}
use Rattle.redl_resolve.proofs.ChainLaws.{passed_para, chain_para, count-⊕, count-push_elem, pieces_of-last, pieces_count-push, grouped-count}
use Rattle.redl_resolve.specs.Counts.{pieces_count}
use Rattle.redl_tree.proofs.Model.Laws.{nodes_of-push_elem}
use Rattle.redl_tree.specs.Model.Count.{count}
use Rattle.redl_tree.specs.Decisions.Groups.{para, grouped}
use Rattle.redl_tree.specs.Model.Nodes.{◌⊕◌}
use Rattle.redl_tree.specs.Model.View.{nodes_of, tag_of, kids_of}
use Rattle.redl_resolve.proofs.made.Made.push_para.Goals as goal

pub returns-then-cut-clause-weight : goal.returns-then-cut-clause-weight
returns-then-cut-clause-weight c =
    omega (arith, ap (λ ps. pieces_count (pieces_of ps)) c.in_ok-push.ensures.items ∙ pieces_count-push c.args.self.now.chain.items _)

pub returns-then-has_no_chain-clause-whole : goal.returns-then-has_no_chain-clause-whole
returns-then-has_no_chain-clause-whole c = λ rest.
    let passed = nodes_of c.args.self.now.passed.items in
    let tag = tag_of c.args.elem in
    let kids = kids_of c.args.elem in
    let none = c.has_no_chain.ensures.none c.if-has_no_chain.true in
    ap (λ ps. nodes_of c.push-then-has_no_chain.new.self.items ⊕ grouped false (pieces_of ps ++ rest)) none
    ∙ ap (λ n. n ⊕ grouped false rest) (ap nodes_of c.in_ok-push-2.ensures.items ∙ nodes_of-push_elem _ _ _ _ refl refl)
    ∙ passed_para passed tag kids rest
    ∙ ap (λ ps. passed ⊕ grouped false (pieces_of ps ++ para tag false kids ∷ rest)) (sym none)
    ∙ ap (λ b. passed ⊕ grouped false (pieces_of c.args.self.now.chain.items ++ para tag b kids ∷ rest)) (sym c.if-cut.false)

pub returns-then-has_no_chain-clause-weight : goal.returns-then-has_no_chain-clause-weight
returns-then-has_no_chain-clause-weight c =
    omega (arith, ap (λ xs. count (nodes_of xs)) c.in_ok-push-2.ensures.items ∙ count-push_elem c.args.self.now.passed.items c.args.elem)

pub returns-clause-whole : goal.returns-clause-whole
returns-clause-whole c = λ rest.
    let passed = nodes_of c.args.self.now.passed.items in
    let chain = pieces_of c.args.self.now.chain.items in
    let tag = tag_of c.args.elem in
    let kids = kids_of c.args.elem in
    let pushed : pieces_of c.push-2.new.self.items ≡ chain ++ para tag false kids ∷ [] =
    ap (λ ps. pieces_of ps) c.in_ok-push-3.ensures.items ∙ pieces_of-last c.args.self.now.chain.items _ ∙ ap (λ b. chain ++ para tag b kids ∷ []) c.if-cut.false in
    ap (λ ps. nodes_of c.flush.new.self.passed.items ⊕ grouped false (pieces_of ps ++ rest)) c.in_ok-flush.ensures.chain
    ∙ ap (λ n. n ⊕ grouped false rest) (c.in_ok-flush.ensures.passed ∙ ap (λ ps. passed ⊕ grouped false ps) pushed)
    ∙ chain_para passed chain tag kids rest
    ∙ ap (λ ps. passed ⊕ grouped false ps) (append_assoc chain (para tag false kids ∷ []) rest)
    ∙ ap (λ b. passed ⊕ grouped false (chain ++ para tag b kids ∷ rest)) (sym c.if-cut.false)

pub returns-clause-weight : goal.returns-clause-weight
returns-clause-weight c =
    let passed = nodes_of c.args.self.now.passed.items in
    let pushed = pieces_of c.push-2.new.self.items in
    omega (
      arith,
      ap (λ ps. pieces_count (pieces_of ps)) c.in_ok-push-3.ensures.items ∙ pieces_count-push c.args.self.now.chain.items _,
      ap (λ ps. pieces_count (pieces_of ps)) c.in_ok-flush.ensures.chain,
      ap count c.in_ok-flush.ensures.passed,
      count-⊕ passed (grouped false pushed),
      grouped-count false None pushed,
    )
