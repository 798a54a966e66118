-- Nodes by hand, with the notes of what keeps their text from being read again.
use Rattle.std.proofs.Common.{◌≡◌, refl, ℕ, zero, suc, [], ◌∷◌, nat_lt, true, false}
use Rattle.std.specs.Prelude.{codes}
use Rattle.redl_commands.specs.Notes.{again_notes}
use Rattle.redl_io.specs.Limits.{depth}
use Rattle.redl_lines.specs.declared.note.Note.TheVariants.{NotAgain}
use Rattle.redl_lines.specs.declared.note.Obstacle.TheVariants.{Meeting}
use Rattle.redl_tree.specs.Model.Nodes.{Nodes, no_nodes, bytes, element}
use Rattle.redl_tree.specs.Model.Shapes.{depth_of}
use Rattle.redl_tree.specs.Roles.Names.{of_w}

-- an element in an element, so many times
nested : ℕ → Nodes
nested zero = no_nodes
nested (suc levels) = element (of_w (codes "smartTag")) (nested levels) no_nodes

row_none : again_notes (element (of_w (codes "t")) (bytes (codes "a]]") no_nodes) (bytes (codes ">") no_nodes)) ≡ []
row_none = refl

row_meeting : again_notes (element (of_w (codes "t")) (bytes (codes "a]]") (bytes (codes ">") no_nodes)) no_nodes) ≡ NotAgain Meeting ∷ []
row_meeting = refl

row_depth : (nat_lt depth (depth_of (nested 512)) ≡ false) × (nat_lt depth (depth_of (nested 513)) ≡ true)
unfolding nested
row_depth = (refl, refl)
