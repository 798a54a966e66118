-- Node by node, and what a list keeps as text at once.
use Rattle.std.proofs.Common.{◌≡◌, ◌+◌, ap, sym, ◌∙◌, arith, subst, drop, ℕ, List, OnOk}
use Rattle.std.proofs.lemmas.Result.{on_ok_weaker}
use Rattle.redl_tree.specs.Model.IdleTexts.{idle_nodes}
use Rattle.redl_tree.specs.Model.Nodes.{Nodes, Item, no_nodes, in_front}
use Rattle.redl_tree.specs.Model.View.{nodes_of, item_of, tag_of, kids_of}
use Rattle.redl_tree.proofs.Model.Laws.{nodes_here, nodes_end, item_of-Plain, ⊕-no_nodes, in_front-⊕}
use Rattle.redl_left.proofs.NotedLaws.{noted-append}
use Rattle.redl_left.specs.Finds.{Find, finds, found}
use Rattle.redl_left.specs.Lines.{noted_all}
use Rattle.redl_left.specs.Search.{table_of}
use Rattle.redl_left.specs.Seen.{tables_of}
use Rattle.redl_left.specs.declared.line.Line.{Line}
use Rattle.redl_left.proofs.FindLaws.{finds-⊕}
use Rattle.redl_left.proofs.walk.+look.Goals as goal

pub look_node-returns-in-Plain-clause-noted : goal.look_node-returns-in-Plain-clause-noted
look_node-returns-in-Plain-clause-noted t c =
    let nodes = idle_nodes c.in-Plain.plain in
    let Noted : Nodes → Type 0 = λ ns. OnOk c.look_plain.result (tables_of c.look_plain.new.seen
    ≡ noted_all (tables_of c.args.seen.now) (finds (table_of c.args.below.search.now) c.args.below.part.now c.args.parent.now ns)) in
    let NotedItem : Item → Type 0 = λ item. Noted (in_front item no_nodes) in
    subst NotedItem (sym (ap item_of c.in-Plain.is ∙ item_of-Plain c.in-Plain.plain))
    (subst Noted (sym (⊕-no_nodes nodes)) (c.look_plain.ensures.noted c.args.parent.now))

pub look_inside-returns-clause-noted : goal.look_inside-returns-clause-noted
look_inside-returns-clause-noted t c =
    let table = table_of c.args.below.search.now in
    let part = c.args.below.part.now in
    let elem = c.args.elem.now in
    let old = tables_of c.args.seen.now in
    let own = found table part c.args.parent.now (tag_of elem) (kids_of elem) in
    let below : List ℕ → Nodes → List Find = finds table part in
    on_ok_weaker c.look_nodes.result (λ e. e
    ∙ ap (λ (s : List (List Line)). noted_all s (below c.local.result.now (nodes_of c.kids.result.now))) c.in_ok-note_elem.ensures
    ∙ ap (λ (local : List ℕ). noted_all (noted_all old own) (below local (nodes_of c.kids.result.now))) c.local.ensures
    ∙ ap (λ (nodes : Nodes). noted_all (noted_all old own) (below (tag_of elem).local nodes)) c.kids.ensures.kids
    ∙ sym (noted-append old own (below (tag_of elem).local (kids_of elem)))) c.look_nodes.ensures.noted

pub look_nodes-loop-node-preserved : goal.look_nodes-loop-node-preserved
look_nodes-loop-node-preserved t c =
    let items = c.args.nodes.now in
    let i = c.loop-node.node-index in
    let x = c.node-item.result in
    let own = in_front (item_of x) no_nodes in
    let more = nodes_of (drop (i + 1) items) in
    let found : Nodes → List Find = finds (table_of c.args.below.search.now) c.args.below.part.now c.args.parent.now in
    let tables = tables_of c.loop-node.seen in
    let here = nodes_here items i x (omega arith) c.node-item.is in
    record {
      known = c.in_ok-look_node.ensures.known;
      noted =
          ap (λ (s : List (List Line)). noted_all s (found more)) c.in_ok-look_node.ensures.noted
          ∙ sym (noted-append tables (found own) (found more))
          ∙ ap (λ (f : List Find). noted_all tables f) (sym (finds-⊕ (table_of c.args.below.search.now) c.args.below.part.now c.args.parent.now own more))
          ∙ ap (λ (ns : Nodes). noted_all tables (found ns)) (in_front-⊕ (item_of x) no_nodes more ∙ sym here)
          ∙ c.loop-node.invariant.noted;
    }

pub look_nodes-returns-clause-noted : goal.look_nodes-returns-clause-noted
look_nodes-returns-clause-noted t c =
    let end = nodes_end c.args.nodes.now c.loop-node.node-index (omega arith) in
    sym (ap (λ (ns : Nodes). noted_all (tables_of c.loop-node.seen) (finds (table_of c.args.below.search.now) c.args.below.part.now c.args.parent.now ns)) end)
    ∙ c.loop-node.invariant.noted
