use Rattle.std.proofs.Common.{◌≡◌, true, false, sym, ap, ◌∙◌}
use Rattle.redl_tree.proofs.Model.KeptLaws.{only_kept, only_left, without_kept, without_left}
use Rattle.redl_tree.proofs.Model.Laws.{⊕-no_nodes, nodes_of-push}
use Rattle.redl_tree.specs.Model.Kids.{item_is}
use Rattle.redl_tree.specs.Roles.Names.{is}
use Rattle.redl_tree.specs.Model.Nodes.{no_nodes, ◌⊕◌}
use Rattle.redl_tree.specs.Model.View.{nodes_of, item_of}
use Rattle.redl_paras.proofs.PropsLaws.{no_props}
use Rattle.redl_paras.proofs.join.put.Goals as goal

pub returns-in_ok-push-clause-props : goal.returns-in_ok-push-clause-props
returns-in_ok-push-clause-props c =
    let e : item_is (is "pPr") (item_of c.args.kid) ≡ true = sym c.is_props.ensures ∙ c.if-is_props.true in
    ap nodes_of c.in_ok-push.ensures.items ∙ nodes_of-push _ _
    ∙ ap (λ n. nodes_of c.args.props.now.items ⊕ n) (sym (only_kept (is "pPr") no_props (item_of c.args.kid) no_nodes e))

pub returns-in_ok-push-clause-others : goal.returns-in_ok-push-clause-others
returns-in_ok-push-clause-others c =
    let e : item_is (is "pPr") (item_of c.args.kid) ≡ true = sym c.is_props.ensures ∙ c.if-is_props.true in
    let others = nodes_of c.args.others.now.items in
    sym (⊕-no_nodes others) ∙ ap (λ n. others ⊕ n) (sym (without_left (is "pPr") no_props (item_of c.args.kid) no_nodes e))

pub returns-in_ok-push-2-clause-props : goal.returns-in_ok-push-2-clause-props
returns-in_ok-push-2-clause-props c =
    let e : item_is (is "pPr") (item_of c.args.kid) ≡ false = sym c.is_props.ensures ∙ c.if-is_props.false in
    let props = nodes_of c.args.props.now.items in
    sym (⊕-no_nodes props) ∙ ap (λ n. props ⊕ n) (sym (only_left (is "pPr") no_props (item_of c.args.kid) no_nodes e))

pub returns-in_ok-push-2-clause-others : goal.returns-in_ok-push-2-clause-others
returns-in_ok-push-2-clause-others c =
    let e : item_is (is "pPr") (item_of c.args.kid) ≡ false = sym c.is_props.ensures ∙ c.if-is_props.false in
    ap nodes_of c.in_ok-push-2.ensures.items ∙ nodes_of-push _ _
    ∙ ap (λ n. nodes_of c.args.others.now.items ⊕ n) (sym (without_kept (is "pPr") no_props (item_of c.args.kid) no_nodes e))
