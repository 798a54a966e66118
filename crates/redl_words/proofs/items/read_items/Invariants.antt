use Rattle.std.proofs.Common.{◌≡◌, All, IsUtf8, length}
use Rattle.redl_words.specs.Reading.Items.{gathered, items_view, nothing}
use Rattle.redl_words.proofs.items.read_items.Given as goal

abbrev pub invariant-loop-word : goal.invariant-loop-word
invariant-loop-word l = (gathered l.form (items_view l.items) l.rest ≡ gathered l.form nothing l.words) × All IsUtf8 l.rest

abbrev pub decreases-loop-word : goal.decreases-loop-word
decreases-loop-word l = length l.rest
