use Rattle.std.proofs.Common.{◌≡◌, ℕ, take}
use Rattle.std.specs.BTreeSet.{contains}
use Rattle.std.specs.Ordering.{nat_cmp}
use Rattle.redl_commands.specs.Notes.{noting_gone, stands}
use Rattle.redl_lines.specs.Remarks.{remarks_view}
use Rattle.redl_tree.specs.Model.Nodes.{Nodes}
use Rattle.redl_commands_write.proofs.gone.add_notes.Given as goal

-- the notes of the numbers so far
abbrev pub invariant-loop-number : goal.invariant-loop-number
invariant-loop-number l = (nodes : Nodes) → ((number : ℕ) → contains nat_cmp l.standing number ≡ stands nodes number)
    → remarks_view l.remarks ≡ noting_gone nodes (take l.number-index l.numbers) (remarks_view l.initial.remarks)
