-- What is known of styles that were looked up.
use Rattle.std.specs.Prelude.{ℕ, List, Option, Some, None, if◌then◌else◌}
use Rattle.std.specs.BTreeMap.{get_by}
use Rattle.std.specs.Cmp.Lexicographic.{slice_cmp}
use Rattle.std.specs.Ordering.{nat_cmp}
use Rattle.redl_reading.specs.Steps.{or_else}
use Rattle.redl_lists.specs.Tables.{is_text}
use Rattle.redl_hidden.specs.declared.places.Places.{Places}

-- the place that a table has for an id
abbrev pub place_in : Places → List ℕ → Option ℕ
place_in places id = get_by (λ k. slice_cmp nat_cmp id k.now) places.by_id

-- the place that is wanted, after a style with this id came to others
abbrev pub pushed : Option (List ℕ) → ℕ → List ℕ → Option ℕ → Option ℕ
pushed id place wanted old = or_else old (if is_text wanted id then Some place else None)
