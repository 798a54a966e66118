-- Labels and state after a walk are those of the fold. The loop keeps the labelled nodes before it and the others after it.
use Rattle.std.proofs.Common.{◌≡◌, get_or, ◌+◌, ◌<◌, ◌≤◌, length, take, drop, sym, ap, subst, ◌∙◌, arith}
use Rattle.std.proofs.lemmas.List.{take_more_set, drop-set-lt, take_all, length-set, get_or-set_other}
use Rattle.redl_tree.specs.Model.Nodes.{no_nodes, in_front, ◌⊕◌}
use Rattle.redl_tree.specs.Roles.Arounds.{around_inside}
use Rattle.redl_tree.specs.Model.View.{nodes_of, item_of, tag_of, kids_of}
use Rattle.redl_tree.proofs.Model.Laws.{nodes_here, nodes_end, nodes_of-push, ⊕-no_nodes, built_more}
use denote.Param.Weighed.{at_most}
use Rattle.redl_tree.specs.declared.node.Body.TheViews.{size-Node}
use Rattle.redl_visit.specs.Visits.{visited, visited_item, Needs, NeedsItem}
use Rattle.redl_visit.specs.Labelling.{visit_of, needs_of, relabelled, relabelled_item}
use Rattle.redl_visit.proofs.VisitLaws.{visited-in_front, needs-in_front, none_inner}
use Rattle.redl_visit.proofs.LabelLaws.{relabelled-in_front, none_relabelled}
use Rattle.redl_visit.proofs.labels.+labels.Goals as goal

pub label_inner-returns-in-None-clause-kids : goal.label_inner-returns-in-None-clause-kids
label_inner-returns-in-None-clause-kids g t c =
    sym (none_relabelled around_inside g.L.Labeller.rule (tag_of c.args.elem.now) (kids_of c.args.elem.now) c.args.here c.args.below (g.L.Labeller.state c.args.labeller.now)
    (sym c.in-None.is ∙ c.requires.inner))

pub label_inner-returns-in-None-clause-state : goal.label_inner-returns-in-None-clause-state
label_inner-returns-in-None-clause-state g t c =
    sym (none_inner around_inside (visit_of g.L.Labeller.rule) (tag_of c.args.elem.now) (kids_of c.args.elem.now) c.args.here c.args.below (g.L.Labeller.state c.args.labeller.now)
    (sym c.in-None.is ∙ c.requires.inner))

pub label_nodes-label_node-requires : goal.label_nodes-label_node-requires
label_nodes-label_node-requires g t c κs within =
    let v = visit_of g.L.Labeller.rule in
    let n = needs_of g.L.Labeller.needs in
    let h = c.args.here in
    let o = c.args.own in
    let items = c.loop-i.nodes in
    let i = c.loop-i.i in
    let x = c.index-nodes-i.result in
    let s = g.L.Labeller.state c.loop-i.labeller in
    let inside : i < length items = omega (arith, c.loop-i.invariant.unvisited.0) in
    let same : get_or items i x ≡ get_or c.args.nodes.now i x = c.loop-i.invariant.unvisited.1 i x (omega arith) in
    let below = at_most size-Node c.args.nodes.now i x (omega (arith, inside, c.loop-i.invariant.unvisited.0)) in
    let here = nodes_here items i x inside c.index-nodes-i.is in
    let needs = (needs-in_front around_inside v h o n (item_of x) (nodes_of (drop (i + 1) items)) s (subst (λ ns. Needs around_inside v n h o ns s) here c.loop-i.invariant.needs)).0 in
    (omega (arith, c.decreases, ap size-Node same, below), (within.0, (within.1, subst (λ z. NeedsItem around_inside v n h o (item_of z) s) c.index-nodes-i.is needs)))

pub label_nodes-loop-i-preserved : goal.label_nodes-loop-i-preserved
label_nodes-loop-i-preserved g t c =
    let rule = g.L.Labeller.rule in
    let v = visit_of rule in
    let n = needs_of g.L.Labeller.needs in
    let h = c.args.here in
    let o = c.args.own in
    let items = c.loop-i.nodes in
    let i = c.loop-i.i in
    let x = c.index-nodes-i.result in
    let changed = c.label_node.new.node in
    let s = g.L.Labeller.state c.loop-i.labeller in
    let new = g.L.Labeller.state c.label_node.new.labeller in
    let more = drop (i + 1) items in
    let within : i < length items = omega (arith, c.loop-i.invariant.unvisited.0) in
    let here = nodes_here items i x within c.index-nodes-i.is in
    let front = take_more_set items i changed within in
    let back = drop-set-lt (i + 1) items i changed (omega arith) in
    let state_is = c.label_node.ensures.state ∙ ap (λ z. visited_item around_inside v h o (item_of z) s) (sym c.index-nodes-i.is) in
    let made = c.label_node.ensures.node ∙ ap (λ z. relabelled_item around_inside rule h o (item_of z) s) (sym c.index-nodes-i.is) in
    let placed = in_front (relabelled_item around_inside rule h o (item_of x) s) no_nodes in
    let later = (needs-in_front around_inside v h o n (item_of x) (nodes_of more) s (subst (λ ns. Needs around_inside v n h o ns s) here c.loop-i.invariant.needs)).1 in
    record {
      unvisited = (
        length-set items i changed ∙ c.loop-i.invariant.unvisited.0,
        λ k d below. get_or-set_other items i k changed d (omega arith) ∙ c.loop-i.invariant.unvisited.1 k d (omega arith),
      );
      needs = subst (λ xs. Needs around_inside v n h o (nodes_of xs) new) (sym back) (subst (λ z. Needs around_inside v n h o (nodes_of more) z) (sym state_is) later);
      nodes =
          built_more _ _ _
          (ap nodes_of front ∙ nodes_of-push _ _ ∙ ap (λ y. nodes_of (take i items) ⊕ in_front y no_nodes) made)
          (ap (λ ns. relabelled around_inside rule h o ns s) here ∙ relabelled-in_front around_inside rule h o g.L.Labeller.leaves (item_of x) (nodes_of more) s
          ∙ ap (λ z. placed ⊕ relabelled around_inside rule h o (nodes_of more) z) (sym state_is)
          ∙ ap (λ xs. placed ⊕ relabelled around_inside rule h o (nodes_of xs) new) (sym back)) c.loop-i.invariant.nodes;
      state =
          ap (λ xs. visited around_inside v h o (nodes_of xs) new) back ∙ ap (λ z. visited around_inside v h o (nodes_of more) z) state_is
          ∙ sym (visited-in_front around_inside v h o (item_of x) (nodes_of more) s) ∙ ap (λ ns. visited around_inside v h o ns s) (sym here) ∙ c.loop-i.invariant.state;
    }

pub label_nodes-returns-clause-nodes : goal.label_nodes-returns-clause-nodes
label_nodes-returns-clause-nodes g t c =
    let items = c.loop-i.nodes in
    let past : length items ≤ c.loop-i.i = omega (arith, c.loop-i.invariant.unvisited.0) in
    let rest = ap (λ ns. relabelled around_inside g.L.Labeller.rule c.args.here c.args.own ns (g.L.Labeller.state c.loop-i.labeller)) (nodes_end items c.loop-i.i past) in
    ap nodes_of (sym (take_all c.loop-i.i items past)) ∙ sym (⊕-no_nodes _) ∙ ap (λ ns. nodes_of (take c.loop-i.i items) ⊕ ns) (sym rest)
    ∙ c.loop-i.invariant.nodes
