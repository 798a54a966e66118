-- The notes that a table has for an id.
use Rattle.std.specs.Prelude.{◌≡◌, ℕ, List, [], ◌++◌, bytes_eq, if◌then◌else◌}
use Rattle.std.specs.Global.{Vec}
use Rattle.std.specs.BTreeMap.{get_by}
use Rattle.std.specs.Cmp.Lexicographic.{slice_cmp}
use Rattle.std.specs.Ordering.{nat_cmp}
use Rattle.std.specs.List.{flat_map, list_any}
use Rattle.std.specs.Option.{option_map_or}
use denote.Ref.{Bor}
use Rattle.redl_tree.specs.Model.View.{Element}
use Rattle.redl_tree.specs.declared.node.Elem.{Elem}
use Rattle.redl_order.specs.Borrowed.{all_borrowed}
use Rattle.redl_order.specs.declared.places.Places.{Places}

abbrev pub held : Vec (Bor Elem) → List Element
held notes = all_borrowed notes.items

abbrev pub notes_at : Places → List ℕ → List Element
notes_at places id = option_map_or held (get_by (λ k. slice_cmp nat_cmp id k.now) places.notes) []

-- the notes with these ids went over, id after id
pub record Moves (ids : List (List ℕ)) (found left : Places) (old new : List Element) : Type 0 where
  pub added : new ≡ old ++ flat_map (notes_at found) ids
  pub others : (other : List ℕ) → notes_at left other ≡ (if list_any (λ id. bytes_eq id other) ids then [] else notes_at found other)
