-- How many steps the stories cost: the same sum at the end and at each of two places where memory can run out.
use Rattle.std.proofs.Common.{◌<◌, List, Vec, length, get_or, sym, subst, ap, arith}
use Rattle.std.specs.Global.{Global}
use Rattle.redl_leaves.specs.declared.stepping.Made.{Made}
use Rattle.redl_editor.proofs.CostLaws.{cost-here}
use Rattle.redl_editor.proofs.MakeLaws.{all_made_count-more}
use Rattle.redl_editor.proofs.KeptLaws.{ready-more, kept-here, kept-cost}
use Rattle.redl_editor.specs.Inside.Makes.{all_made_count}
use Rattle.redl_editor.specs.Kept.{IsReady, AreReady}
use Rattle.redl_editor.proofs.bulk.make_stories.Goals as goal

pub returns-in_err-made-clause-steps : goal.returns-in_err-made-clause-steps
returns-in_err-made-clause-steps g c = λ parts before kept is_set listed.
    let at = c.loop-at.at in
    let stories = c.args.stories.now in
    let x = get_or stories at c.index-stories-at.result in
    let is_x = ap (get_or stories at) c.index-stories-at.is in
    let y = c.index-tables-at.result in
    let lt : at < length c.args.stories.now = omega (arith, c.loop-at-test.true) in
    let here = kept-here before parts c.args.stories.now c.args.tables.now at x y kept lt is_x c.index-tables-at.is in
    let cost = rw c.deref.ensures.value at c.in_err-made.ensures.steps in
    omega (
      arith,
      cost here.kept.table is_set listed 1,
      kept-cost before here.part x y here.kept is_set,
      cost-here is_set parts at here.part here.within here.is,
      c.loop-at.invariant.steps parts before kept is_set listed,
    )

pub returns-in_err-push-clause-steps : goal.returns-in_err-push-clause-steps
returns-in_err-push-clause-steps g c = λ parts before kept is_set listed.
    let at = c.loop-at.at in
    let stories = c.args.stories.now in
    let x = get_or stories at c.index-stories-at.result in
    let is_x = ap (get_or stories at) c.index-stories-at.is in
    let y = c.index-tables-at.result in
    let lt : at < length c.args.stories.now = omega (arith, c.loop-at-test.true) in
    let here = kept-here before parts c.args.stories.now c.args.tables.now at x y kept lt is_x c.index-tables-at.is in
    let cost = rw c.deref.ensures.value at c.in_ok-made.ensures.steps in
    omega (
      arith,
      cost here.kept.table is_set listed 1,
      kept-cost before here.part x y here.kept is_set,
      cost-here is_set parts at here.part here.within here.is,
      c.loop-at.invariant.steps parts before kept is_set listed,
    )

pub loop-at-preserved : goal.loop-at-preserved
loop-at-preserved g c =
    let at = c.loop-at.at in
    let stories = c.args.stories.now in
    let x = get_or stories at c.index-stories-at.result in
    let is_x = ap (get_or stories at) c.index-stories-at.is in
    let y = c.index-tables-at.result in
    let lt : at < length c.args.stories.now = omega (arith, c.loop-at-test.true) in
    let made = rw c.deref.ensures.value at c.in_ok-made.ensures.made in
    let ways = rw c.deref.ensures.value at c.in_ok-made.ensures.ways in
    let ready : IsReady c.args.revs.now c.args.says.now x y c.in_ok-made.made.items = record { made = made; ways = ways } in
    record {
      ready = subst (λ (xs : List (Vec Made Global)). AreReady c.args.revs.now c.args.says.now c.args.stories.now c.args.tables.now xs) (sym c.in_ok-push.ensures.items)
          (ready-more c.args.revs.now c.args.says.now c.args.stories.now c.args.tables.now c.loop-at.all.items c.in_ok-made.made at x y
          c.loop-at.invariant.count lt (omega (arith, lt, c.requires.as_many)) is_x c.index-tables-at.is ready c.loop-at.invariant.ready);
      count = omega (arith, c.loop-at.invariant.count, c.in_ok-push.ensures.len);
      steps = λ parts before kept is_set listed.
          let here = kept-here before parts c.args.stories.now c.args.tables.now at x y kept lt is_x c.index-tables-at.is in
          let cost = rw c.deref.ensures.value at c.in_ok-made.ensures.steps in
          omega (
            arith,
            cost here.kept.table is_set listed 1,
            kept-cost before here.part x y here.kept is_set,
            cost-here is_set parts at here.part here.within here.is,
            c.loop-at.invariant.steps parts before kept is_set listed,
          );
      counted = omega (
        arith,
        c.loop-at.invariant.counted,
        c.in_ok-made.ensures.counted,
        ap all_made_count c.in_ok-push.ensures.items,
        all_made_count-more c.loop-at.all.items c.in_ok-made.made,
      );
    }

pub returns-clause-steps : goal.returns-clause-steps
returns-clause-steps g c = λ parts before kept is_set listed. omega (arith, c.loop-at.invariant.steps parts before kept is_set listed)
