-- A flat node at the end tells nothing.
use Rattle.std.proofs.Common.{◌≡◌, ◌<◌, ◌∙◌, ◌+◌, ◌-◌, ◌++◌, [], ◌∷◌, List, length, take, arith, sym, ap, true}
use Rattle.std.proofs.lemmas.List.{take_more}
use Rattle.redl_tree.specs.Model.View.{item_of, nodes_of}
use Rattle.redl_tree.specs.declared.node.Node.{Node}
use Rattle.redl_tree.proofs.Model.Laws.{nodes_of-push}
use Rattle.redl_excerpts.specs.Inside.Flat.{is_flat}
use Rattle.redl_excerpts.specs.Mentions.{mentions}
use Rattle.redl_excerpts.proofs.FlatLaws.{mentions_before}
use Rattle.redl_excerpts.proofs.flat.count_telling.Goals as goal

pub loop-end-preserved : goal.loop-end-preserved
loop-end-preserved c =
    let nodes = c.args.nodes.now in
    let end = c.loop-end.end in
    let i = end - 1 in
    let x = c.index-nodes-end.result in
    let within : i < length nodes = omega (arith, c.loop-end.invariant.within, c.loop-end-test.true) in
    let next : end ≡ i + 1 = omega (arith, c.loop-end-test.true) in
    let flat : is_flat c.args.excerpts.now (item_of x) ≡ true = sym c.is_flat.ensures ∙ c.if-is_flat.true in
    record {
      within = omega (arith, c.loop-end.invariant.within);
      same = λ moved v here made.
          let tells = λ (xs : List Node). mentions moved v here (nodes_of xs) in
          sym (ap (λ n. tells (take n nodes)) next ∙ ap tells (take_more nodes i x within)
          ∙ ap (λ y. tells (take i nodes ++ y ∷ [])) (sym c.index-nodes-end.is)
          ∙ ap (mentions moved v here) (nodes_of-push (take i nodes) x)
          ∙ mentions_before c.args.excerpts.now moved v here (nodes_of (take i nodes)) (item_of x) made flat)
          ∙ c.loop-end.invariant.same moved v here made;
    }
