use Rattle.std.proofs.Common.{◌≡◌, ◌<◌, ◌≤◌, ◌-◌, length, get_or, take, drop, sym, ap, ◌∙◌, arith}
use Rattle.std.proofs.lemmas.List.{take_all, length-drop}
use Rattle.redl_leaves.specs.Finds.{leaf_in}
use Rattle.redl_leaves.proofs.FindLaws.{find-here, find-beyond, find-end}
use Rattle.redl_leaves.specs.View.{view_of, states_of}
use Rattle.redl_leaves.proofs.finding.+find.Goals as goal

pub find_leaf-returns-in-empty : goal.find_leaf-returns-in-empty
find_leaf-returns-in-empty t c = sym (find-end c.args.way.now (states_of c.args.slots.now) c.in-empty.len_below)

pub find_leaf-returns-in-Some : goal.find_leaf-returns-in-Some
find_leaf-returns-in-Some t c =
    let within : get_or c.args.way.now 0 0 < length c.args.slots.now = omega (arith, c.in-Some.ensures.lookup) in
    let rest = drop 1 c.args.way.now in
    let whole : take (length c.args.way.now - 1) rest ≡ rest = take_all (length c.args.way.now - 1) rest (omega (arith, length-drop 1 c.args.way.now)) in
    c.find_in.ensures
    ∙ ap (λ w. leaf_in w (view_of c.in-Some.slot.now)) whole
    ∙ sym (find-here c.args.way.now c.args.slots.now c.in-Some.slot.now c.in-len1-up.len_at_least within c.in-Some.ensures.lookup.1)

pub find_leaf-returns-in-None : goal.find_leaf-returns-in-None
find_leaf-returns-in-None t c =
    let past : length c.args.slots.now ≤ get_or c.args.way.now 0 0 = omega (arith, c.in-None.ensures.lookup) in
    sym (find-beyond c.args.way.now c.args.slots.now c.in-len1-up.len_at_least past)
