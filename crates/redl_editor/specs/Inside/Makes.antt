-- Leaves by their numbers, and what making them takes.
use Rattle.std.specs.Prelude.{ℕ, ◌≡◌, ◌+◌, ◌<◌, List, [], ◌∷◌, Vec, length, get_or, map, sum_by, true}
use Rattle.std.specs.Global.{Global}
use Rattle.redl_tree.specs.Model.Count.{count}
use Rattle.redl_tree.specs.Model.View.{nodes_of}
use Rattle.redl_tree.specs.Leaves.Slots.{Slots}
use Rattle.redl_tree.specs.Leaves.Ways.{leaf_at}
use Rattle.redl_leaves.specs.Finds.{size_at}
use Rattle.redl_leaves.specs.declared.stepping.Made.{Made}
use Rattle.redl_editor.specs.Holdings.{is_touched}

-- these leaves have ways
abbrev pub AreWithin : List (List ℕ) → List ℕ → Type 0
AreWithin ways leaves = (leaf : ℕ) → is_touched leaves leaf ≡ true → leaf < length ways

-- their ways
abbrev pub ways_of : List (List ℕ) → List ℕ → List (List ℕ)
ways_of ways leaves = map (λ leaf. get_or ways leaf []) leaves

-- the sum of their sizes
abbrev pub sizes_of : List (List ℕ) → Slots → List ℕ → ℕ
sizes_of ways slots leaves = sum_by (λ leaf. size_at (leaf_at (get_or ways leaf []) slots)) leaves

-- how many nodes were made
abbrev pub made_count : List Made → ℕ
made_count [] = 0
made_count (one ∷ later) = count (nodes_of one.nodes.items) + made_count later

-- in all stories
abbrev pub all_made_count : List (Vec Made Global) → ℕ
all_made_count [] = 0
all_made_count (one ∷ later) = made_count one.items + all_made_count later
