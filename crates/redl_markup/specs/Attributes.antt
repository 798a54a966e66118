-- The attributes of a tail, one after the other, as names and values.
use Rattle.std.specs.Prelude.{ℕ, zero, suc, List, [], ◌∷◌, length, map, Option, Some, None}
use Rattle.redl_grammar.specs.Names.{Name}
use Rattle.redl_grammar.specs.ScanTags.{attribute_in}

-- the list of a tail's first attribute, and then what `rest_of` gives for the rest
abbrev pub attributes_by : (List ℕ → List (Name × List ℕ)) → Option ((Name × List ℕ) × List ℕ) → List (Name × List ℕ)
attributes_by rest_of None = []
attributes_by rest_of (Some x) = x.0 ∷ rest_of x.1

abbrev pub attributes_from : ℕ → List ℕ → List (Name × List ℕ)
attributes_from zero tail = []
attributes_from (suc n) tail = attributes_by (attributes_from n) (attribute_in tail)

-- each attribute takes at least a byte
unfoldable pub attributes_of : List ℕ → List (Name × List ℕ)
attributes_of tail = attributes_from (suc (length tail)) tail

-- their names
abbrev pub names_in : List ℕ → List Name
names_in tail = map (λ a. a.0) (attributes_of tail)
