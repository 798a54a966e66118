use Rattle.std.proofs.Common.{not, ap, ◌∙◌, rules}
use Rattle.std.proofs.lemmas.Fn.{filter_same}
use Rattle.redl_tree.proofs.Model.KeptLaws.{filter_without}
use Rattle.redl_tree.proofs.Model.Laws.{nodes_of-append}
use Rattle.redl_tree.specs.Model.Kids.{item_is}
use Rattle.redl_tree.specs.Roles.Names.{is}
use Rattle.redl_tree.specs.Model.Nodes.{◌⊕◌}
use Rattle.redl_tree.specs.Model.View.{nodes_of, item_of}
use Rattle.redl_paras.proofs.PropsLaws.{no_props}
use Rattle.redl_paras.proofs.join.add_bare.Goals as goal

pub returns : goal.returns
returns c =
    ap nodes_of c.in_ok-append.ensures.items ∙ nodes_of-append _ _
    ∙ ap (λ n. nodes_of c.args.all.now.items ⊕ n)
    (ap nodes_of (filter_same _ (λ x. not (item_is (is "pPr") (item_of x))) _ (λ x b f' k. search rules) _ _ c.retain.ensures.filtered)
    ∙ filter_without (is "pPr") no_props c.args.nodes.items)
