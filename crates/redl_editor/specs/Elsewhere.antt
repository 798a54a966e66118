-- Leaves that hold no member or marker of the revisions that are set.
use Rattle.std.specs.Prelude.{ℕ, ◌≡◌, ◌⊎◌, Bool, Option, Some, false, slice_get}
use Rattle.redl_tree.specs.Decisions.Packages.{stories}
use Rattle.redl_tree.specs.Leaves.Leaf.{LeafPath, leaves}
use Rattle.redl_tree.specs.Leaves.Settings.{has_member}
use Rattle.redl_tree.specs.Model.Nodes.{Nodes, no_nodes}
use Rattle.redl_tree.specs.Model.View.{Element}
use Rattle.redl_editor.specs.Documents.{Document, present_at}

-- the leaf is as it was, or it is or was empty, since a table, a row, a cell or a content control round it goes
abbrev pub IsAsBefore : Option Nodes → Option Nodes → Type 0
IsAsBefore old new = (new ≡ old) ⊎ (new ≡ Some no_nodes) ⊎ (old ≡ Some no_nodes)

-- so is each leaf that holds none of these revisions
abbrev pub StaysElsewhere : (ℕ → Bool) → Document → Document → Type 0
StaysElsewhere is_set old new =
    (number place : ℕ) (story : Element) (path : LeafPath) → slice_get (stories old.nodes) number ≡ Some story → slice_get (leaves story) place ≡ Some path
    → has_member is_set path.leaf.nodes ≡ false → IsAsBefore (present_at old number place) (present_at new number place)
