use Rattle.std.proofs.Common.{◌≡◌, ◌∷◌, ◌+◌, ◌<◌, [], suc, length, List, Vec, sym, subst, ap, ◌∙◌, arith, refl, get_or, set, map}
use Rattle.std.proofs.lemmas.List.{nil_from_length, length-set, with_items_is, get_or_default}
use Rattle.std.specs.Global.{Global}
use Rattle.std.specs.Vec.{vec_len, with_items}
use Rattle.std.specs.Vec.Iter.{into_iter_items}
use Rattle.redl_leaves.specs.Steps.{AreMade, CanSet, way_of}
use Rattle.redl_leaves.specs.View.{states_of}
use Rattle.redl_leaves.specs.declared.slots.Slot.{Slot}
use Rattle.redl_tree.specs.Leaves.Containers.{opens}
use Rattle.redl_tree.specs.Leaves.Shown.{AreStatesOf}
use Rattle.redl_leaves.specs.declared.stepping.Made.{Made}
use Rattle.redl_editor.proofs.KeptLaws.{AreSet, SetsStory, set-more, set-done}
use Rattle.redl_editor.specs.declared.story.Story.{Story}
use Rattle.redl_editor.proofs.bulk.set_stories.Goals as goal

pub loop-made-preserved : goal.loop-made-preserved
loop-made-preserved c =
    let at = c.loop-made.at in
    let stories = c.loop-made.stories in
    let says = c.args.says.now in
    let later = into_iter_items c.next.new.self in
    let here : into_iter_items c.loop-made.made-iterator ≡ c.in-Some.made ∷ later = c.in-Some.ensures.steps.0 in
    let lt : at < length stories = omega (arith, ap length here, c.loop-made.invariant.count) in
    let x : Story = get_or stories at c.index-stories-at-in-loop-made.result in
    let spot_is : get_or stories at c.index-stories-at.result ≡ x = get_or_default stories at c.index-stories-at.result c.index-stories-at-in-loop-made.result lt in
    let is : x ≡ get_or stories at x = get_or_default stories at c.index-stories-at-in-loop-made.result x lt in
    let new : Story = record { spot = x.spot; slots = with_items x.slots c.set_story.new.slots } in
    let as_many : length c.set_story.new.slots ≡ vec_len x.slots = omega (arith, c.set_story.auto.slots, c.deref_mut.ensures.len) in
    let slots_new : new.slots.items ≡ c.set_story.new.slots = with_items_is x.slots c.set_story.new.slots as_many in
    let slots_is : x.slots.items ≡ c.deref_mut.result.now = sym c.deref_mut.ensures.value in
    record {
      count = omega (arith, ap length here, c.loop-made.invariant.count, length-set stories at new);
      set = λ parts tables is_set before revs are unheld ready kept.
          let had = subst (λ (xs : List (Vec Made Global)). AreSet revs before says at parts stories tables xs) here
          (c.loop-made.invariant.set parts tables is_set before revs are unheld ready kept) in
          let sets : SetsStory is_set before says x new c.in-Some.made.items =
          λ part spot can made of.
          subst (λ (slots : List Slot). AreStatesOf opens says part (states_of slots)) (sym slots_new)
          (c.set_story.ensures part (ap (λ (s : Story). s.spot) spot_is ∙ spot) is_set before
          (subst (λ (slots : List Slot). CanSet is_set before says part (map way_of c.in-Some.made.items) (states_of slots)) slots_is can)
          (subst (λ (slots : List Slot). AreMade says c.in-Some.made.items (states_of slots)) slots_is made)
          (subst (λ (slots : List Slot). AreStatesOf opens before part (states_of slots)) slots_is of)) in
          let more = set-more is_set before says revs are at parts stories tables c.in-Some.made later x new unheld is refl sets had in
          let next : suc at ≡ at + 1 = omega arith in
          subst (λ n. AreSet revs before says n parts (set stories at new) tables later) next more;
    }

pub returns : goal.returns
returns c = λ parts tables is_set before revs are unheld ready kept.
    let none : into_iter_items c.loop-made.made-iterator ≡ [] = nil_from_length _ (sym c.loop-made.made-iterator.rest.ok.0 ∙ c.in-None.ensures.steps.0) in
    let all : length c.loop-made.stories ≡ c.loop-made.at = omega (arith, c.loop-made.invariant.count, ap length none) in
    set-done revs before c.args.says.now c.loop-made.at parts c.loop-made.stories tables _ all (c.loop-made.invariant.set parts tables is_set before revs are unheld ready kept)
