-- Taking the stories out of nodes leaves them empty, one after another: the loop keeps what is before and after it.
use Rattle.std.proofs.Common.{◌+◌, ◌<◌, ◌≤◌, ◌^◌, ◌++◌, length, take, drop, sym, ap, subst, ◌∙◌, arith}
use Rattle.std.proofs.lemmas.List.{take_more_set, drop-set-lt, take_all, length-set, get_or-set_other}
use Rattle.redl_tree.specs.Model.Count.{count, item_count}
use Rattle.redl_tree.specs.Model.Nodes.{no_nodes, in_front, ◌⊕◌}
use Rattle.redl_tree.specs.Decisions.Packages.{stories_in, changed_in}
use Rattle.redl_tree.specs.Decisions.StoryWalk.{changed_item, item_stories}
use Rattle.redl_tree.specs.Model.View.{nodes_of, item_of}
use Rattle.redl_tree.proofs.Model.Laws.{nodes_here, nodes_end, nodes_of-push, ⊕-no_nodes, built_more, count-in_front}
use Rattle.redl_tree.proofs.Decisions.StoryLaws.{stories_in-in_front, changed_in-in_front}
use Rattle.redl_editor.proofs.BegunLaws.{taken-more, taken-ends}
use Rattle.redl_editor.specs.Inside.Begun.{AddsBegun}
use Rattle.redl_editor.specs.Stories.{empty_rule}
use Rattle.redl_editor.proofs.taking.+take.Goals as goal

pub take_among-loop-i-preserved : goal.take_among-loop-i-preserved
take_among-loop-i-preserved t c =
    let items = c.loop-i.nodes in
    let i = c.loop-i.i in
    let x = (c.index-nodes-i).result in
    let taken = c.take_node.new.node in
    let more = drop (i + 1) items in
    let within : i < length items = omega (arith, c.loop-i.invariant.unvisited.0) in
    let here = nodes_here items i x within (c.index-nodes-i).is in
    let front = take_more_set items i taken within in
    let back = drop-set-lt (i + 1) items i taken (omega arith) in
    record {
      unvisited = (
        length-set items i taken ∙ c.loop-i.invariant.unvisited.0,
        λ k d below. get_or-set_other items i k taken d (omega arith) ∙ c.loop-i.invariant.unvisited.1 k d (omega arith),
      );
      nodes = λ ancestors is.
          let made = c.in_ok-take_node.ensures.node ancestors is ∙ ap (λ z. changed_item empty_rule tt ancestors (item_of z)) (sym (c.index-nodes-i).is) in
          let placed = in_front (changed_item empty_rule tt ancestors (item_of x)) no_nodes in
          built_more _ _ _
          (ap nodes_of front ∙ nodes_of-push _ _ ∙ ap (λ y. nodes_of (take i items) ⊕ in_front y no_nodes) made)
          (ap (changed_in empty_rule tt ancestors) here ∙ changed_in-in_front empty_rule tt ancestors (item_of x) (nodes_of more)
          ∙ ap (λ xs. placed ⊕ changed_in empty_rule tt ancestors (nodes_of xs)) (sym back)) (c.loop-i.invariant.nodes ancestors is);
      stories = λ ancestors is few.
          let so_far = c.loop-i.invariant.stories ancestors is few in
          let one : item_count (item_of x) < 2 ^ 32 = omega (arith, few, c.loop-i.invariant.few, ap count here, count-in_front (item_of x) (nodes_of more)) in
          let few_here = subst (λ z. item_count (item_of z) < 2 ^ 32) (c.index-nodes-i).is one in
          let adds = subst (λ z. AddsBegun (item_stories ancestors (item_of z)) c.loop-i.stories.items c.take_node.new.stories.items) (sym (c.index-nodes-i).is)
          (c.in_ok-take_node.ensures.stories ancestors is few_here) in
          let splits = ap (stories_in ancestors) here ∙ stories_in-in_front ancestors (item_of x) (nodes_of more)
          ∙ ap (λ xs. item_stories ancestors (item_of x) ++ stories_in ancestors (nodes_of xs)) (sym back) in
          taken-more _ _ (item_stories ancestors (item_of x)) _ _ _ _ splits so_far adds;
      few = omega (
        arith,
        ap (λ xs. count (nodes_of xs)) back,
        ap count here,
        count-in_front (item_of x) (nodes_of more),
        c.loop-i.invariant.few,
      );
    }

pub take_among-returns-clause-nodes : goal.take_among-returns-clause-nodes
take_among-returns-clause-nodes t c = λ ancestors is.
    let items = c.loop-i.nodes in
    let past : length items ≤ c.loop-i.i = omega (arith, c.loop-i.invariant.unvisited.0) in
    let rest = ap (changed_in empty_rule tt ancestors) (nodes_end items c.loop-i.i past) in
    ap nodes_of (sym (take_all c.loop-i.i items past)) ∙ sym (⊕-no_nodes _) ∙ ap (λ ns. nodes_of (take c.loop-i.i items) ⊕ ns) (sym rest)
    ∙ c.loop-i.invariant.nodes ancestors is

pub take_among-returns-clause-stories : goal.take_among-returns-clause-stories
take_among-returns-clause-stories t c = λ ancestors is few.
    let items = c.loop-i.nodes in
    let past : length items ≤ c.loop-i.i = omega (arith, c.loop-i.invariant.unvisited.0) in
    taken-ends _ _ _ _ (ap (stories_in ancestors) (nodes_end items c.loop-i.i past)) (c.loop-i.invariant.stories ancestors is few)
