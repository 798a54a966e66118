use Rattle.std.proofs.Common.{◌≡◌, [], ◌∷◌, refl, sym, ap, ◌∙◌, rules}
use Rattle.std.proofs.lemmas.List.{nil_from_length}
use Rattle.std.specs.Vec.Iter.{into_iter_items}
use Rattle.redl_paras.proofs.ChainLaws.{without-in_front}
use Rattle.redl_tree.proofs.Model.KeptLaws.{only_front}
use Rattle.redl_tree.proofs.Model.Laws.{⊕-no_nodes, built_more}
use Rattle.redl_tree.specs.Model.Kids.{only, without}
use Rattle.redl_tree.specs.Roles.Names.{is}
use Rattle.redl_tree.specs.Model.Nodes.{◌⊕◌}
use Rattle.redl_tree.specs.Model.View.{nodes_of, item_of}
use Rattle.redl_paras.proofs.join.part.Goals as goal

pub loop-kid-init : goal.loop-kid-init
loop-kid-init c =
    let items : into_iter_items c.into_iter-kid-iterator.result ≡ c.args.kids.items = search rules in
    record { props = rw items refl; others = rw items refl }

pub loop-kid-preserved : goal.loop-kid-preserved
loop-kid-preserved c =
    let test = is "pPr" in
    let kid = c.in-Some.kid in
    let rest = into_iter_items c.next.new.self in
    let here : into_iter_items c.loop-kid.kid-iterator ≡ kid ∷ rest = c.in-Some.ensures.steps.0 in
    record {
      props = built_more _ _ _ c.in_ok-put.ensures.props
          (ap (λ xs. only test (nodes_of xs)) here ∙ only_front test (item_of kid) (nodes_of rest)) c.loop-kid.invariant.props;
      others = built_more _ _ _ c.in_ok-put.ensures.others
          (ap (λ xs. without test (nodes_of xs)) here ∙ without-in_front test (item_of kid) (nodes_of rest)) c.loop-kid.invariant.others;
    }

pub returns-clause-props : goal.returns-clause-props
returns-clause-props c =
    let none : into_iter_items c.loop-kid.kid-iterator ≡ [] = nil_from_length _ (sym c.loop-kid.kid-iterator.rest.ok.0 ∙ c.in-None.ensures.steps.0) in
    let props = nodes_of c.loop-kid.props.items in
    sym (⊕-no_nodes props) ∙ ap (λ xs. props ⊕ only (is "pPr") (nodes_of xs)) (sym none) ∙ c.loop-kid.invariant.props

pub returns-clause-others : goal.returns-clause-others
returns-clause-others c =
    let none : into_iter_items c.loop-kid.kid-iterator ≡ [] = nil_from_length _ (sym c.loop-kid.kid-iterator.rest.ok.0 ∙ c.in-None.ensures.steps.0) in
    let others = nodes_of c.loop-kid.others.items in
    sym (⊕-no_nodes others) ∙ ap (λ xs. others ⊕ without (is "pPr") (nodes_of xs)) (sym none) ∙ c.loop-kid.invariant.others
