-- What setting says may cost in a package, and what it costs at least.
use Rattle.std.specs.Prelude.{ℕ, ◌+◌, ◌≡◌, ◌≤◌, List, [], ◌∷◌, Bool, Some, slice_get, true}
use Rattle.redl_tree.specs.Leaves.Leaf.{LeafPath, leaves}
use Rattle.redl_tree.specs.Leaves.Present.{pass_leaf}
use Rattle.redl_tree.specs.Leaves.Settings.{has_member, setting_cost}
use Rattle.redl_tree.specs.Model.Count.{count}
use Rattle.redl_tree.specs.Model.View.{Element}
use Rattle.redl_tree.specs.declared.kinds.Say.{Say}

-- the sum of what it may cost in each of these stories
abbrev pub parts_cost : (ℕ → Bool) → List Element → ℕ
parts_cost is_set [] = 0
parts_cost is_set (part ∷ parts) = setting_cost is_set (leaves part) + parts_cost is_set parts

-- Each leaf of these stories that holds a member or a marker of a revision that is set was made under these says, and a step was counted
-- for each node of it.
abbrev pub AreCounted : (ℕ → Bool) → List Say → ℕ → ℕ → List Element → Type 0
AreCounted is_set says old new [] = Unit {0}
AreCounted is_set says old new (part ∷ parts) =
    ((place : ℕ) (path : LeafPath) → slice_get (leaves part) place ≡ Some path → has_member is_set path.leaf.nodes ≡ true
    → old + count (pass_leaf says path.leaf) ≤ new)
    × AreCounted is_set says old new parts
