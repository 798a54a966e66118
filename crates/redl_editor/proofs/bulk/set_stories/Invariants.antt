use Rattle.std.proofs.Common.{◌≡◌, ◌+◌, ℕ, List, Bool, length}
use Rattle.std.specs.Vec.Iter.{into_iter_items}
use Rattle.redl_tree.specs.Model.View.{Element}
use Rattle.redl_tree.specs.declared.kinds.Say.{Say}
use Rattle.redl_editor.proofs.KeptLaws.{AreSet}
use Rattle.redl_editor.specs.Kept.{AreKept, AreReady, AreUnheld, AreChanges}
use Rattle.redl_editor.specs.declared.table.Table.{Table}
use Rattle.redl_editor.proofs.bulk.set_stories.Given as goal

abbrev pub invariant-loop-made : goal.invariant-loop-made
invariant-loop-made l = record {
  count : l.at + length (into_iter_items l.made-iterator) ≡ length l.stories;
  set : (parts : List Element) → (tables : List Table) → (is_set : ℕ → Bool) → (before : List Say) → (revs : List ℕ)
      → AreChanges is_set before l.says revs → AreUnheld is_set parts → AreReady revs l.says l.initial.stories tables l.fn.all.items
      → AreKept before parts l.initial.stories tables → AreSet revs before l.says l.at parts l.stories tables (into_iter_items l.made-iterator);
}
