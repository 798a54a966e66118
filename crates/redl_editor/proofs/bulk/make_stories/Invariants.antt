use Rattle.std.proofs.Common.{◌≡◌, ◌≤◌, ◌+◌, ℕ, List, Bool, true, length, drop}
use Rattle.redl_tree.specs.Model.View.{Element}
use Rattle.redl_tree.specs.declared.kinds.Say.{Say}
use Rattle.redl_editor.specs.Costs.{parts_cost}
use Rattle.redl_editor.specs.Holdings.{is_touched}
use Rattle.redl_editor.specs.Inside.Makes.{all_made_count}
use Rattle.redl_editor.specs.Kept.{AreKept, AreReady}
use Rattle.redl_editor.proofs.bulk.make_stories.Given as goal

abbrev pub invariant-loop-at : goal.invariant-loop-at
invariant-loop-at g l = record {
  ready : AreReady l.revs l.says l.stories l.tables l.all.items;
  count : length l.all.items ≡ l.at;
  steps : (parts : List Element) → (before : List Say) → AreKept before parts l.stories l.tables → (is_set : ℕ → Bool)
      → ((rev : ℕ) → is_touched l.revs rev ≡ true → is_set rev ≡ true)
      → l.steps + parts_cost is_set (drop l.at parts) ≤ l.initial.steps + parts_cost is_set parts;
  counted : l.initial.steps + all_made_count l.all.items ≤ l.steps;
}
