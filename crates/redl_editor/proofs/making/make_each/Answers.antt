-- One leaf more is made. It is long because steps are counted where memory runs out too.
use Rattle.std.proofs.Common.{◌≡◌, ◌<◌, ◌+◌, ◌++◌, [], List, length, get_or, map, drop, subst, sym, ap, arith}
use Rattle.redl_tree.specs.Leaves.States.{slots_of}
use Rattle.redl_tree.specs.Leaves.Ways.{leaf_at}
use Rattle.redl_editor.proofs.MakeLaws.{made-pushed, made_count-more, leaf-within, ways-more, sizes-here, any-number}
use Rattle.redl_leaves.specs.Finds.{size_at}
use Rattle.redl_editor.specs.Inside.Makes.{made_count, ways_of}
use Rattle.redl_leaves.specs.Steps.{AreMade, way_of}
use Rattle.redl_leaves.specs.View.{states_of}
use Rattle.redl_leaves.specs.declared.stepping.Made.{Made}
use Rattle.redl_editor.proofs.making.make_each.Goals as goal

pub returns-in_err-nodes-clause-steps : goal.returns-in_err-nodes-clause-steps
returns-in_err-nodes-clause-steps g c = λ ways has within.
    let leaves = c.args.leaves.now in
    let slots = slots_of (states_of c.args.slots.now) in
    let i = c.loop-leaf.leaf-index in
    let n = get_or leaves i 0 in
    let lt : i < length leaves = omega arith in
    let is : n ≡ get_or leaves i n = any-number leaves i 0 n lt in
    let so_far = c.loop-leaf.invariant.1 ways has within in
    let way : c.way-way.result.now ≡ get_or ways n [] = c.way-way.ensures ways has (leaf-within ways leaves i n within lt is) in
    omega (arith, so_far.1, sizes-here ways slots leaves i n lt is, ap (λ w. size_at (leaf_at w slots)) way, c.in_err-nodes.ensures.steps)

pub returns-in_err-push-clause-steps : goal.returns-in_err-push-clause-steps
returns-in_err-push-clause-steps g c = λ ways has within.
    let leaves = c.args.leaves.now in
    let slots = slots_of (states_of c.args.slots.now) in
    let i = c.loop-leaf.leaf-index in
    let n = get_or leaves i 0 in
    let lt : i < length leaves = omega arith in
    let is : n ≡ get_or leaves i n = any-number leaves i 0 n lt in
    let so_far = c.loop-leaf.invariant.1 ways has within in
    let way : c.way-way.result.now ≡ get_or ways n [] = c.way-way.ensures ways has (leaf-within ways leaves i n within lt is) in
    omega (arith, so_far.1, sizes-here ways slots leaves i n lt is, ap (λ w. size_at (leaf_at w slots)) way, c.in_ok-nodes.ensures.steps)

pub loop-leaf-preserved : goal.loop-leaf-preserved
loop-leaf-preserved g c =
    let one : Made = record { way = c.way-way.result; nodes = c.in_ok-nodes.nodes } in
    let states = states_of c.args.slots.now in (
      subst (λ (xs : List Made). AreMade c.args.says.now xs states) (sym c.in_ok-push.ensures.items)
          (made-pushed c.args.says.now c.loop-leaf.all.items one states c.loop-leaf.invariant.0 c.in_ok-nodes.ensures.made),
      λ ways has within.
          let leaves = c.args.leaves.now in
          let slots = slots_of (states_of c.args.slots.now) in
          let i = c.loop-leaf.leaf-index in
          let n = get_or leaves i 0 in
          let lt : i < length leaves = omega arith in
          let is : n ≡ get_or leaves i n = any-number leaves i 0 n lt in
          let so_far = c.loop-leaf.invariant.1 ways has within in
          let way : c.way-way.result.now ≡ get_or ways n [] = c.way-way.ensures ways has (leaf-within ways leaves i n within lt is) in (
            subst (λ (xs : List Made). map way_of xs ++ ways_of ways (drop (i + 1) leaves) ≡ ways_of ways leaves) (sym c.in_ok-push.ensures.items)
                (ways-more ways leaves i n c.loop-leaf.all.items one lt is way so_far.0),
            omega (arith, so_far.1, sizes-here ways slots leaves i n lt is, ap (λ w. size_at (leaf_at w slots)) way, c.in_ok-nodes.ensures.steps),
          ),
      omega (
        arith,
        c.loop-leaf.invariant.2,
        c.in_ok-nodes.ensures.counted,
        ap made_count c.in_ok-push.ensures.items,
        made_count-more c.loop-leaf.all.items one,
      ),
    )
