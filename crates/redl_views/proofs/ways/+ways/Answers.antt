use Rattle.std.proofs.Common.{◌≡◌, ◌∙◌, ◌+◌, ◌≤◌, arith, sym, ap, subst, drop}
use Rattle.redl_tree.specs.Model.View.{nodes_of, item_of, tag_of, kids_of}
use Rattle.redl_tree.proofs.Model.Laws.{nodes_here}
use Rattle.redl_tables.specs.Owners.{and_then}
use Rattle.redl_tables.specs.declared.owned.Finding.TheVariants.{Living}
use Rattle.redl_tables.proofs.AskedLaws.{answer-more}
use Rattle.redl_views.specs.Ways.{found_of_item}
use Rattle.redl_views.proofs.WayLaws.{no-step, then-living, not-living, leads-on, less-on, passed-most, way-noted}
use Rattle.redl_views.proofs.ways.+ways.Goals as goal

pub find_in_elem-returns-then-not-is_step-clause-found : goal.find_in_elem-returns-then-not-is_step-clause-found
find_in_elem-returns-then-not-is_step-clause-found t c =
    sym (no-step c.args.says.now c.args.asked (tag_of c.args.elem.now) (kids_of c.args.elem.now) (sym c.is_step.ensures ∙ c.if-not-is_step.true))

pub find_way-returns-in-Living-clause-found : goal.find_way-returns-in-Living-clause-found
find_way-returns-in-Living-clause-found t c =
    let items = c.args.nodes.now in
    let i = c.loop-node.node-index in
    let x = c.node-item.result in
    let here = nodes_here items i x c.loop-node-test.true c.node-item.is in
    let found : found_of_item c.args.says.now c.args.asked (item_of x) ≡ Living = sym c.find_in_node-found.ensures.found ∙ c.in-Living.is in
    answer-more c.args.says.now c.args.asked (item_of x) (nodes_of (drop (i + 1) items)) (nodes_of (drop i items)) c.loop-node.all Living _ here
    (sym (ap (and_then c.loop-node.all) found ∙ then-living c.loop-node.all)) c.loop-node.invariant.0

pub find_way-returns-in-Living-clause-way : goal.find_way-returns-in-Living-clause-way
find_way-returns-in-Living-clause-way t c = λ is.
    let items = c.args.nodes.now in
    let i = c.loop-node.node-index in
    let x = c.node-item.result in
    let here = nodes_here items i x c.loop-node-test.true c.node-item.is in
    way-noted c.args.says.now c.args.asked c.loop-node.passed (drop c.args.level c.find_in_node-found.new.way) (drop c.args.level c.put_step.new.way)
    (item_of x) (nodes_of (drop (i + 1) items)) (nodes_of (drop i items)) (nodes_of items) c.put_step.ensures.way here
    (sym c.find_in_node-found.ensures.found ∙ c.in-Living.is) (c.find_in_node-found.ensures.way c.in-Living.is) c.loop-node.invariant.1.1.1.0

pub find_way-loop-node-preserved : goal.find_way-loop-node-preserved
find_way-loop-node-preserved t c =
    let items = c.args.nodes.now in
    let i = c.loop-node.node-index in
    let x = c.node-item.result in
    let rest = nodes_of (drop (i + 1) items) in
    let all = c.loop-node.all in
    let passed = c.loop-node.passed in
    let after = c.passed_node-passed.ensures in
    let here = nodes_here items i x c.loop-node-test.true c.node-item.is in
    let next = c.and-all.ensures ∙ ap (and_then all) c.find_in_node-found.ensures.found in (
      answer-more c.args.says.now c.args.asked (item_of x) rest (nodes_of (drop i items)) all c.and-all.result _ here next c.loop-node.invariant.0,
      (
        subst (λ n. n ≤ i + 1) (sym after) (omega (arith, passed-most (item_of x) passed, c.loop-node.invariant.1.0)),
        (
          c.find_in_node-found.ensures.room ∙ c.loop-node.invariant.1.1.0,
          (
            λ at way n h. c.loop-node.invariant.1.1.1.0 at way (less-on passed _ at (item_of x) after n)
                (leads-on c.args.says.now c.args.asked passed _ at way (item_of x) rest (nodes_of (drop i items)) after here n h),
            λ h. not-living all c.find_in_node-found.result c.loop-node.invariant.1.1.1.1 c.in_default.not-Living (sym c.and-all.ensures ∙ h),
          ),
        ),
      ),
    )

pub find_way-returns-clause-way : goal.find_way-returns-clause-way
find_way-returns-clause-way t c = λ is. absurd (c.loop-node.invariant.1.1.1.1 is)
