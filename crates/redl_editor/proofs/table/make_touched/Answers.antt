use Rattle.std.proofs.Common.{◌≡◌, ◌≤◌, ◌∙◌, map, sym, ap, subst, List, ℕ, arith}
use Rattle.redl_tree.specs.Leaves.Pending.{Covers}
use Rattle.redl_tree.specs.Leaves.States.{slots_of}
use Rattle.redl_tree.specs.Leaves.Ways.{ways, AreWays, is_end}
use Rattle.redl_editor.specs.Holdings.{HoldsOf}
use Rattle.redl_editor.proofs.CostLaws.{touched-cost}
use Rattle.redl_editor.specs.Inside.Makes.{AreWithin, ways_of, sizes_of}
use Rattle.redl_tree.specs.Leaves.Settings.{slots_cost}
use Rattle.redl_leaves.specs.Steps.{way_of}
use Rattle.redl_leaves.specs.View.{states_of}
use Rattle.redl_editor.specs.declared.holding.Held.{Held}
use Rattle.redl_editor.proofs.table.make_touched.Goals as goal

pub returns-clause-ways : goal.returns-clause-ways
returns-clause-ways g c = λ is story is_set before same none listed unheld.
    let slots = slots_of (states_of c.args.slots.now) in
    let of : HoldsOf c.deref.result.now slots = subst (λ (held : List Held). HoldsOf held slots) (sym c.deref.ensures.value) is.held in
    let within : AreWithin (ways slots) c.deref-2.result.now =
    subst (λ (leaves : List ℕ). AreWithin (ways slots) leaves) (sym c.deref-2.ensures.value) (c.in_ok-leaves.ensures.within slots of) in
    let ends : map way_of c.in_ok-all.all.items ≡ ways_of (ways slots) c.in_ok-leaves.leaves.items =
    c.in_ok-all.ensures.ways (ways slots) is.places within ∙ ap (ways_of (ways slots)) c.deref-2.ensures.value in
    let covers = c.in_ok-leaves.ensures.covers slots of is_set none listed in
    record {
      same = same;
      unheld = unheld;
      ways = subst (λ (to : List (List ℕ)). AreWays to slots) (sym ends) covers.0;
      covers = subst (λ (to : List (List ℕ)). Covers (is_end slots to) is_set 0 slots) (sym ends) covers.1;
    }

pub returns-in_err-all-clause-steps : goal.returns-in_err-all-clause-steps
returns-in_err-all-clause-steps g c = λ is is_set listed depth.
    let slots = slots_of (states_of c.args.slots.now) in
    let leaves = c.in_ok-leaves.leaves.items in
    let of : HoldsOf c.deref.result.now slots = subst (λ (held : List Held). HoldsOf held slots) (sym c.deref.ensures.value) is.held in
    let within : AreWithin (ways slots) c.deref-2.result.now =
    subst (λ (leaves : List ℕ). AreWithin (ways slots) leaves) (sym c.deref-2.ensures.value) (c.in_ok-leaves.ensures.within slots of) in
    let cost : sizes_of (ways slots) slots leaves ≤ slots_cost is_set depth slots =
    touched-cost c.deref.result.now c.args.revs.now leaves c.in_ok-leaves.ensures.touched c.in_ok-leaves.ensures.once slots of is_set listed depth in
    omega (arith, c.in_err-all.ensures.steps (ways slots) is.places within, ap (sizes_of (ways slots) slots) c.deref-2.ensures.value, cost)

pub returns-clause-steps : goal.returns-clause-steps
returns-clause-steps g c = λ is is_set listed depth.
    let slots = slots_of (states_of c.args.slots.now) in
    let leaves = c.in_ok-leaves.leaves.items in
    let of : HoldsOf c.deref.result.now slots = subst (λ (held : List Held). HoldsOf held slots) (sym c.deref.ensures.value) is.held in
    let within : AreWithin (ways slots) c.deref-2.result.now =
    subst (λ (leaves : List ℕ). AreWithin (ways slots) leaves) (sym c.deref-2.ensures.value) (c.in_ok-leaves.ensures.within slots of) in
    let cost : sizes_of (ways slots) slots leaves ≤ slots_cost is_set depth slots =
    touched-cost c.deref.result.now c.args.revs.now leaves c.in_ok-leaves.ensures.touched c.in_ok-leaves.ensures.once slots of is_set listed depth in
    omega (arith, c.in_ok-all.ensures.steps (ways slots) is.places within, ap (sizes_of (ways slots) slots) c.deref-2.ensures.value, cost)
