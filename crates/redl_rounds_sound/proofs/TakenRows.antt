-- Nodes by hand: what a later call takes of their text.
use Rattle.std.proofs.Common.{◌≡◌, refl, ℕ, zero, suc, Ok, Err}
use Rattle.std.specs.Prelude.{codes}
use Rattle.redl_lines.specs.Failures.{caused, no_package, over}
use Rattle.redl_lines.specs.declared.failure.Limit.TheVariants.{Depth}
use Rattle.redl_lines.specs.declared.failure.PackageFault.TheVariants.{NotReadable}
use Rattle.redl_rounds_sound.specs.Told.{taken_again}
use Rattle.redl_tree.specs.Model.Nodes.{Nodes, no_nodes, bytes, element}
use Rattle.redl_tree.specs.Roles.Names.{of_w}

-- stretches that meet are one
row_taken : taken_again (element (of_w (codes "t")) (bytes (codes "a]") (bytes (codes ">b") no_nodes)) no_nodes) ≡ Ok (element (of_w (codes "t")) (bytes (codes "a]>b") no_nodes) no_nodes)
row_taken = refl

-- or none, where they form `]]>`
row_ends : taken_again (element (of_w (codes "t")) (bytes (codes "a]]") (bytes (codes ">b") no_nodes)) no_nodes) ≡ Err (caused (no_package NotReadable))
row_ends = refl

abbrev nested : ℕ → Nodes
nested zero = no_nodes
nested (suc n) = element (of_w (codes "p")) (nested n) no_nodes

-- 513 elements inside one another are too deep
row_deep : taken_again (nested 513) ≡ Err (caused (over Depth))
row_deep = refl
