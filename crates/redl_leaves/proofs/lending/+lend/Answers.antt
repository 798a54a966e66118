use Rattle.std.proofs.Common.{◌≡◌, ◌<◌, ◌≤◌, ◌-◌, length, get_or, take, drop, sym, ap, ◌∙◌, arith}
use Rattle.std.proofs.lemmas.List.{take_all, length-drop}
use Rattle.redl_leaves.specs.Lends.{lent_in}
use Rattle.redl_leaves.proofs.LendLaws.{lent-here, lent-beyond, lent-end}
use Rattle.redl_leaves.specs.View.{view_of, states_of}
use Rattle.redl_leaves.proofs.lending.+lend.Goals as goal

pub lend-returns-in-empty : goal.lend-returns-in-empty
lend-returns-in-empty t c = sym (lent-end c.args.gone c.args.way.now (states_of c.args.slots.now) c.in-empty.len_below)

pub lend-returns-in-Some : goal.lend-returns-in-Some
lend-returns-in-Some t c =
    let within : get_or c.args.way.now 0 0 < length c.args.slots.now = omega (arith, c.in-Some.ensures.lookup) in
    let rest = drop 1 c.args.way.now in
    let whole : take (length c.args.way.now - 1) rest ≡ rest = take_all (length c.args.way.now - 1) rest (omega (arith, length-drop 1 c.args.way.now)) in
    c.lend_in.ensures
    ∙ ap (λ w. lent_in c.args.gone w (view_of c.in-Some.slot.now)) whole
    ∙ sym (lent-here c.args.gone c.args.way.now c.args.slots.now c.in-Some.slot.now c.in-len1-up.len_at_least within c.in-Some.ensures.lookup.1)

pub lend-returns-in-None : goal.lend-returns-in-None
lend-returns-in-None t c =
    let past : length c.args.slots.now ≤ get_or c.args.way.now 0 0 = omega (arith, c.in-None.ensures.lookup) in
    sym (lent-beyond c.args.gone c.args.way.now c.args.slots.now c.in-len1-up.len_at_least past)
