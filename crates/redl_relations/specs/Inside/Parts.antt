-- The part with a number is so.
use Rattle.std.specs.Prelude.{ℕ, Bool, false, slice_get}
use Rattle.std.specs.Option.{option_map_or}
use Rattle.redl_tree.specs.Model.Nodes.{Nodes}
use Rattle.redl_tree.specs.Model.View.{Element}
use Rattle.redl_opc.specs.Shape.{parts_of}

abbrev pub is_at : (Element → Bool) → Nodes → ℕ → Bool
is_at p nodes part = option_map_or p (slice_get (parts_of nodes) part) false
