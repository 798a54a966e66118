use Rattle.std.proofs.Common.{◌∙◌, ◌&&◌, ◌||◌, ◌==◌, ◌+◌, ◌<◌, ◌^◌, rules, of_calls, sym, ap, arith}
use Rattle.std.proofs.lemmas.List.Sorted.{IsNonDecreasingBy-from_sort_by_key, list_any-IsPermutation}
use Rattle.redl_tree.specs.Leaves.Leaf.{leaf_count}
use Rattle.redl_tree.specs.Leaves.States.{slots_of}
use Rattle.redl_editor.specs.Holdings.{is_held, slots_hold}
use Rattle.redl_leaves.specs.View.{states_of}
use Rattle.redl_editor.specs.declared.holding.Held.{Held}
use Rattle.redl_editor.proofs.holding.held_by_story.Goals as goal

pub returns-clause-held : goal.returns-clause-held
returns-clause-held c = record {
  rises = IsNonDecreasingBy-from_sort_by_key (λ (one : Held). one.rev) c.sort_unstable_by_key.new.self.items c.sort_unstable_by_key.ensures.sorted
      (λ a r f k. search (rules, of_calls));
  holds = λ rev leaf.
      sym (list_any-IsPermutation (λ (one : Held). one.rev == rev && one.leaf == leaf) c.note_slots.new.held.items c.sort_unstable_by_key.new.self.items c.sort_unstable_by_key.ensures.permutation)
      ∙ c.in_ok-note_slots.ensures.held rev leaf
      ∙ ap (λ xs. is_held xs rev leaf || slots_hold 0 (slots_of (states_of c.args.slots.now)) rev leaf) c.new-held.ensures.items;
}

pub returns-in_err-note_slots-clause-succeeds : goal.returns-in_err-note_slots-clause-succeeds
returns-in_err-note_slots-clause-succeeds c = λ none few.
    let fits : 0 + leaf_count (slots_of (states_of c.args.slots.now)) < 2 ^ 32 = omega (arith, few) in
    absurd (omega (arith, none, c.in_err-note_slots.ensures.full fits, c.new-held.ensures.len, c.new-held.ensures.capacity))
