-- After a change of a leaf each container on the way to it counts and says what it did before, or what the change makes of it.
use Rattle.std.proofs.Common.{◌≡◌, ◌<◌, ◌≤◌, ◌-◌, ◌^◌, ◌∷◌, ◌++◌, length, get_or, take, drop, sym, ap, subst, ◌∙◌, arith}
use Rattle.std.proofs.lemmas.List.{take_all, take_at, length-drop}
use Rattle.redl_leaves.proofs.MendLaws.{mend-here, mend-numbers, mend-beyond, mend-end, living-within, numbers-retallied, owned-retallied, shifted-is, same-tally}
use Rattle.redl_leaves.proofs.ViewLaws.{container_of-fields, container_of-made}
use Rattle.redl_leaves.specs.Inside.Mends.{HasNumbersIn, Mends, retally, retallied, retallied_in, share, left_at, shifted, goes_at_counts}
use Rattle.redl_tree.specs.Leaves.Living.{goes_by_counts}
use Rattle.redl_tree.specs.Leaves.States.{states_living}
use Rattle.redl_tree.specs.Model.View.{tag_of}
use Rattle.redl_leaves.specs.View.{container_view, tally_of, container_of, states_of}
use Rattle.redl_leaves.proofs.mending.+mend.Goals as goal

pub recount_along-returns-then-at-slots : goal.recount_along-returns-then-at-slots
recount_along-returns-then-at-slots t c = λ parent above spot_is has.
    let ancestors = parent ∷ above in
    let way = c.args.way.now in
    let slots = c.args.slots.now in
    let x = get_or slots (get_or way 0 0) c.index-slots-at.result in
    let x_is : x ≡ get_or slots (get_or way 0 0) x = ap (λ d. get_or slots (get_or way 0 0) d) c.index-slots-at.is in
    let within : get_or way 0 0 < length slots = omega (arith, c.if-at-slots.true) in
    let rest = drop 1 way in
    let whole : take (length way - 1) rest ≡ rest = take_all (length way - 1) rest (omega (arith, length-drop 1 way)) in
    let made = c.mend_in.ensures parent above spot_is (mend-numbers ancestors way slots x c.in-len1-up.len_at_least within x_is has) in
    mend-here ancestors way slots x c.mend_in.new.slot c.mend_in.result c.in-len1-up.len_at_least within x_is (rw whole at made)

pub recount_along-returns-in-empty : goal.recount_along-returns-in-empty
recount_along-returns-in-empty t c = λ parent above spot_is has. record {
  states = mend-end (parent ∷ above) c.args.way.now (states_of c.args.slots.now) c.in-empty.len_below;
  living = omega (arith, c.nothing.ensures.before, c.nothing.ensures.after);
  within = omega (arith, c.nothing.ensures.before);
}

pub recount_along-returns-else-at-slots : goal.recount_along-returns-else-at-slots
recount_along-returns-else-at-slots t c = λ parent above spot_is has. record {
  states = mend-beyond (parent ∷ above) c.args.way.now c.args.slots.now c.in-len1-up.len_at_least (omega (arith, c.if-at-slots.false));
  living = omega (arith, c.nothing-in-len1-up.ensures.before, c.nothing-in-len1-up.ensures.after);
  within = omega (arith, c.nothing-in-len1-up.ensures.before);
}

pub recount_container-returns : goal.recount_container-returns
recount_container-returns t c = λ parent above spot_is has.
    let ancestors = parent ∷ above in
    let way = c.args.way.now in
    let old = c.args.container.now in
    let tag = tag_of old.elem in
    let tally = tally_of old.tally in
    let inner = states_of old.slots.items in
    let slots = c.recount_along-shift.new.slots in
    let new = states_of slots in
    let shift = c.recount_along-shift.result in
    let result = c.counted-container.result in
    let fields : container_of old ≡ container_view tag tally inner = container_of-fields old in
    let numbers : HasNumbersIn ancestors (container_view tag tally inner) = subst (HasNumbersIn ancestors) fields has in
    let mends = rw c.deref_mut.ensures.value at c.recount_along-shift.ensures in
    let m : Mends (tag ∷ ancestors) way inner new shift = mends tag ancestors (c.inside-inside.ensures parent above spot_is) numbers.2 in
    let later = retallied (tag ∷ ancestors) way inner in
    let few : states_living (tag ∷ ancestors) new ≤ 2 ^ 32 - 1 =
    omega (
      arith,
      ap (states_living (tag ∷ ancestors)) m.states,
      living-within (tag ∷ ancestors) later (numbers-retallied (tag ∷ ancestors) way inner numbers.2),
      owned-retallied (tag ∷ ancestors) way inner,
      numbers.0,
      c.left-before.auto.tally,
      c.counted-container.auto.tally,
    ) in
    let living : shifted old.tally shift ≡ states_living (tag ∷ ancestors) new =
    shifted-is old.tally.living shift.before shift.after (states_living (tag ∷ ancestors) new) (omega (arith, m.living, numbers.1)) (omega (arith, m.within, numbers.1)) few in
    let gone : result.gone ≡ goes_by_counts ancestors tag old.tally.cut old.tally.owned (states_living (tag ∷ ancestors) new) =
    c.counted-container.ensures.gone ∙ ap (λ s. goes_at_counts s tag old.tally.cut old.tally.owned (shifted old.tally shift)) spot_is
    ∙ ap (goes_by_counts ancestors tag old.tally.cut old.tally.owned) living in
    let tally_is : tally_of result ≡ retally ancestors tag tally new =
    same-tally result.cut old.tally.cut result.owned old.tally.owned result.living (states_living (tag ∷ ancestors) new) result.gone _
    c.counted-container.ensures.cut c.counted-container.ensures.owned (c.counted-container.ensures.living ∙ living) gone in
    let items : take old.slots.len (slots ++ drop (length slots) old.slots.items) ≡ slots =
    take_at slots _ _ (omega (arith, c.recount_along-shift.auto.slots, c.deref_mut.ensures.len)) in
    record {
      slot = container_of-made _
          ∙ ap (λ xs. container_view tag (tally_of result) (states_of xs)) items
          ∙ ap (λ y. container_view tag y new) tally_is
          ∙ ap (λ s. container_view tag (retally ancestors tag tally s) s) m.states
          ∙ sym (ap (retallied_in ancestors way) fields);
      before = c.left-before.ensures ∙ ap (λ s. left_at s tag old.tally) spot_is ∙ sym (ap (share ancestors) fields);
      after = c.left-after.ensures ∙ ap (λ s. left_at s tag result) spot_is ∙ sym (ap (share ancestors) (container_of-made _));
    }
