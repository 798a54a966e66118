-- A change of the stories changes each of them, in their order, and nothing else. It is long because the loop keeps six facts.
use Rattle.std.proofs.Common.{◌≡◌, ◌∷◌, ◌+◌, ◌<◌, ◌≤◌, List, get_or, length, set, take, drop, sym, ap, subst, ◌∙◌, arith}
use Rattle.std.proofs.lemmas.List.{take_at, take_more_set, drop-set-lt, take_all, length-set, get_or-set_other}
use Rattle.redl_tree.specs.Model.Count.{count, item_count}
use Rattle.redl_tree.specs.Model.Nodes.{Tag, no_nodes, in_front, ◌⊕◌}
use Rattle.redl_tree.specs.Decisions.Packages.{level_of, level_below, stories_in, left_after, changed_in}
use Rattle.redl_tree.specs.Decisions.StoryWalk.{changed_item, item_stories}
use Rattle.redl_tree.specs.Model.View.{nodes_of, item_of, tag_of, kids_of}
use Rattle.redl_tree.proofs.Model.Held.{closed_is_bare}
use denote.Param.Weighed.{at_most}
use Rattle.redl_tree.specs.declared.node.Body.TheViews.{size-Node}
use Rattle.redl_tree.proofs.Model.Laws.{nodes_here, nodes_end, nodes_of-push, ⊕-no_nodes, built_more, count-in_front, count-push}
use Rattle.redl_tree.proofs.Decisions.StoryLaws.{stories_in-in_front, left_after-append, changed_in-in_front}
use Rattle.redl_tree.specs.Decisions.Taken.{TakesAll}
use Rattle.redl_tree.proofs.Decisions.TakenLaws.{takes-append, takes_here}
use Rattle.redl_tree.proofs.stories.+stories.Goals as goal

pub change_among-loop-i-preserved : goal.change_among-loop-i-preserved
change_among-loop-i-preserved g t c =
    let rule = g.C.StoryChange.rule in
    let given = g.C.StoryChange.given c.args.change.now in
    let items = c.loop-i.nodes in
    let i = c.loop-i.i in
    let x = (c.index-nodes-i).result in
    let changed = c.change_node.new.node in
    let state = c.change_node.new.state in
    let more = drop (i + 1) items in
    let within : i < length items = omega (arith, c.loop-i.invariant.unvisited.0) in
    let here = nodes_here items i x within (c.index-nodes-i).is in
    let front = take_more_set items i changed within in
    let back = drop-set-lt (i + 1) items i changed (omega arith) in
    let left : (ancestors : List Tag) → c.args.level ≡ level_of ancestors → given state ≡ left_after rule (given c.loop-i.state) (item_stories ancestors (item_of x)) =
    λ ancestors is. c.in_ok-change_node.ensures.left ancestors is ∙ ap (λ z. left_after rule (given c.loop-i.state) (item_stories ancestors (item_of z))) (sym (c.index-nodes-i).is) in
    record {
      unvisited = (
        length-set items i changed ∙ c.loop-i.invariant.unvisited.0,
        λ k d below. get_or-set_other items i k changed d (omega arith) ∙ c.loop-i.invariant.unvisited.1 k d (omega arith),
      );
      nodes = λ ancestors is.
          let made = c.in_ok-change_node.ensures.node ancestors is
          ∙ ap (λ z. changed_item rule (given c.loop-i.state) ancestors (item_of z)) (sym (c.index-nodes-i).is) in
          let placed = in_front (changed_item rule (given c.loop-i.state) ancestors (item_of x)) no_nodes in
          built_more _ _ _
          (ap nodes_of front ∙ nodes_of-push _ _ ∙ ap (λ y. nodes_of (take i items) ⊕ in_front y no_nodes) made)
          (ap (changed_in rule (given c.loop-i.state) ancestors) here ∙ changed_in-in_front rule (given c.loop-i.state) ancestors (item_of x) (nodes_of more)
          ∙ ap (λ l. placed ⊕ changed_in rule l ancestors (nodes_of more)) (sym (left ancestors is))
          ∙ ap (λ xs. placed ⊕ changed_in rule (given state) ancestors (nodes_of xs)) (sym back)) (c.loop-i.invariant.nodes ancestors is);
      taken =
          let had = c.loop-i.invariant.taken in
          let ancestors = had.ancestors in
          let split = takes-append rule g.C.StoryChange.Takes (given c.loop-i.state) (item_stories ancestors (item_of x)) (stories_in ancestors (nodes_of more))
          (subst (TakesAll rule g.C.StoryChange.Takes (given c.loop-i.state)) (ap (stories_in ancestors) here ∙ stories_in-in_front ancestors (item_of x) (nodes_of more)) had.takes) in
          record {
            ancestors = ancestors;
            is_level = had.is_level;
            takes = subst (λ l. TakesAll rule g.C.StoryChange.Takes l (stories_in ancestors (nodes_of (drop (i + 1) (set items i changed))))) (sym (left ancestors had.is_level))
                (subst (λ xs. TakesAll rule g.C.StoryChange.Takes (left_after rule (given c.loop-i.state) (item_stories ancestors (item_of x))) (stories_in ancestors (nodes_of xs))) (sym back) split.1);
          };
      left = λ ancestors is.
          ap (λ xs. left_after rule (given state) (stories_in ancestors (nodes_of xs))) back
          ∙ ap (λ l. left_after rule l (stories_in ancestors (nodes_of more))) (left ancestors is)
          ∙ sym (left_after-append rule (given c.loop-i.state) (item_stories ancestors (item_of x)) (stories_in ancestors (nodes_of more)))
          ∙ ap (left_after rule (given c.loop-i.state)) (sym (ap (stories_in ancestors) here ∙ stories_in-in_front ancestors (item_of x) (nodes_of more)))
          ∙ c.loop-i.invariant.left ancestors is;
      entered = λ counted. omega (
        arith,
        c.in_ok-change_node.ensures.entered counted,
        ap (λ z. item_count (item_of z)) (c.index-nodes-i).is,
        ap count here,
        count-in_front (item_of x) (nodes_of more),
        ap (λ xs. count (nodes_of xs)) back,
        c.loop-i.invariant.entered counted,
      );
      made = λ counted. omega (
        arith,
        ap (λ xs. count (nodes_of xs)) front ∙ count-push (take i items) changed,
        c.in_ok-change_node.ensures.made counted,
        c.loop-i.invariant.made counted,
      );
    }

pub change_among-change_node-requires : goal.change_among-change_node-requires
change_among-change_node-requires g t c κs within =
    let items = c.loop-i.nodes in
    let i = c.loop-i.i in
    let x = (c.index-nodes-i).result in
    let inside : i < length items = omega (arith, c.loop-i.invariant.unvisited.0) in
    let same : get_or items i x ≡ get_or c.args.nodes.now i x = c.loop-i.invariant.unvisited.1 i x (omega arith) in
    let below = at_most size-Node c.args.nodes.now i x (omega (arith, inside, c.loop-i.invariant.unvisited.0)) in
    let taken = takes_here g.C.StoryChange.rule g.C.StoryChange.Takes (g.C.StoryChange.given c.args.change.now c.loop-i.state) c.args.level items i x inside c.loop-i.invariant.taken in
    (omega (arith, c.decreases, ap size-Node same, below), (within.0, (within.1.0, (within.1.1, taken))))

pub change_among-returns-in_err-change_node-clause-entered : goal.change_among-returns-in_err-change_node-clause-entered
change_among-returns-in_err-change_node-clause-entered g t c = λ counted.
    let items = c.loop-i.nodes in
    let i = c.loop-i.i in
    let x = (c.index-nodes-i).result in
    let within : i < length items = omega (arith, c.loop-i.invariant.unvisited.0) in
    let here = nodes_here items i x within (c.index-nodes-i).is in
    omega (
      arith,
      c.in_err-change_node.ensures.entered counted,
      ap (λ z. item_count (item_of z)) (c.index-nodes-i).is,
      ap count here,
      count-in_front (item_of x) (nodes_of (drop (i + 1) items)),
      c.loop-i.invariant.entered counted,
    )

pub change_among-returns-clause-nodes : goal.change_among-returns-clause-nodes
change_among-returns-clause-nodes g t c = λ ancestors is.
    let items = c.loop-i.nodes in
    let past : length items ≤ c.loop-i.i = omega (arith, c.loop-i.invariant.unvisited.0) in
    let rest = ap (changed_in g.C.StoryChange.rule (g.C.StoryChange.given c.args.change.now c.loop-i.state) ancestors) (nodes_end items c.loop-i.i past) in
    ap nodes_of (sym (take_all c.loop-i.i items past)) ∙ sym (⊕-no_nodes _) ∙ ap (λ ns. nodes_of (take c.loop-i.i items) ⊕ ns) (sym rest)
    ∙ c.loop-i.invariant.nodes ancestors is

pub change_among-returns-clause-left : goal.change_among-returns-clause-left
change_among-returns-clause-left g t c = λ ancestors is.
    let items = c.loop-i.nodes in
    let past : length items ≤ c.loop-i.i = omega (arith, c.loop-i.invariant.unvisited.0) in
    sym (ap (λ ns. left_after g.C.StoryChange.rule (g.C.StoryChange.given c.args.change.now c.loop-i.state) (stories_in ancestors ns)) (nodes_end items c.loop-i.i past))
    ∙ c.loop-i.invariant.left ancestors is

pub change_among-returns-clause-made : goal.change_among-returns-clause-made
change_among-returns-clause-made g t c = λ counted.
    let items = c.loop-i.nodes in
    let past : length items ≤ c.loop-i.i = omega (arith, c.loop-i.invariant.unvisited.0) in
    omega (arith, ap (λ xs. count (nodes_of xs)) (take_all c.loop-i.i items past), c.loop-i.invariant.made counted)

-- an element that is closed by `/>` has no kids, and so none when their stories are changed
pub change_elem-return_kids-requires : goal.change_elem-return_kids-requires
change_elem-return_kids-requires g t c = λ closed.
    let elem = c.args.elem.now in
    let ancestors = tag_of elem ∷ c.requires.taken.ancestors in
    let as_long : length c.change_among.new.nodes ≡ c.take_kids-kids.result.len = omega (arith, c.change_among.auto.nodes, c.deref_mut.ensures.len) in
    let bare : kids_of elem ≡ no_nodes = closed_is_bare elem (ap (λ (x : Tag). x.close) (sym c.take_kids-kids.ensures.tag) ∙ closed) in
    ap nodes_of (take_at c.change_among.new.nodes _ _ as_long)
    ∙ c.in-Ok.ensures.nodes ancestors (c.below.ensures ∙ ap (level_below c.args.level) c.take_kids-kids.ensures.tag ∙ ap (λ l. level_below l (tag_of elem)) c.requires.taken.is_level)
    ∙ ap (changed_in g.C.StoryChange.rule (g.C.StoryChange.given c.args.change.now c.args.state.now) ancestors)
    (ap nodes_of c.deref_mut.ensures.value ∙ c.take_kids-kids.ensures.kids ∙ bare)
