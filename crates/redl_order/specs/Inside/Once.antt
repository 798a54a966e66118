-- Stories of parts that are pushed, each once.
use Rattle.std.specs.Prelude.{◌≡◌, ℕ, List, ◌++◌, Bool}
use Rattle.std.specs.List.{flat_map}
use Rattle.redl_tree.specs.Model.View.{Element}
use Rattle.redl_order.specs.Order.{each_once}

-- The stories of these parts came behind others, but for those that were seen: whatever comes after them comes so too.
abbrev pub Pushes : (ℕ → List Element) → (ℕ → Bool) → List Element → (ℕ → Bool) → List Element → List ℕ → Type 0
Pushes story seen old seen_after new parts = (tail : List ℕ) → new ++ flat_map story (each_once seen_after tail) ≡ old ++ flat_map story (each_once seen (parts ++ tail))
