-- The places that maps have for names, and that they are those of the tables.
use Rattle.std.specs.Prelude.{◌≡◌, ℕ, List, Option, Some, None, find, if◌then◌else◌}
use Rattle.std.specs.BTreeMap.{get_by}
use Rattle.std.specs.Cmp.Lexicographic.{slice_cmp}
use Rattle.std.specs.Ordering.{nat_cmp}
use Rattle.std.specs.Option.{option_copied}
use Rattle.redl_reading.specs.Steps.{or_else}
use Rattle.redl_lists.specs.Tables.{is_text}
use Rattle.redl_numbering.specs.Nums.{place_of, list_id, list_style, num_name, style_name, is_default}
use Rattle.redl_numbering.specs.declared.firsts.Firsts.{Firsts}
use Rattle.redl_numbering.specs.declared.lists.Lists.{Lists}

abbrev pub place_in : Firsts → List ℕ → Option ℕ
place_in firsts name = get_by (λ k. slice_cmp nat_cmp name k.now) firsts.places

-- the place that is wanted, after a row with this name came to others
abbrev pub pushed : Option (List ℕ) → ℕ → List ℕ → Option ℕ → Option ℕ
pushed name place wanted old = or_else old (if is_text wanted name then Some place else None)

pub record IsKnown (known : Lists) : Type 0 where
  pub lists : (name : List ℕ) → place_in known.lists name ≡ place_of list_id known.tables.now.lists name
  pub links : (name : List ℕ) → place_in known.links name ≡ place_of list_style known.tables.now.lists name
  pub nums : (name : List ℕ) → place_in known.nums name ≡ place_of num_name known.tables.now.nums name
  pub styles : (name : List ℕ) → place_in known.styles name ≡ place_of style_name known.tables.now.styles name
  pub default : option_copied known.default ≡ find is_default known.tables.now.styles
