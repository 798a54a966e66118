-- The values that elements name for a fact: in lines, and as code keeps them.
use Rattle.std.specs.Prelude.{ℕ, List, [], ◌∷◌, Bool, true, false, is_some, map, get_or, bytes_eq, if◌then◌else◌}
use Rattle.std.specs.Borrow.{Bor}
use Rattle.std.specs.BTreeMap.{BTreeMap, get_by}
use Rattle.std.specs.Cmp.Lexicographic.{slice_cmp}
use Rattle.std.specs.List.{list_any}
use Rattle.std.specs.Ordering.{nat_cmp}
use Rattle.redl_left.specs.Facts.{fact_number}
use Rattle.redl_left.specs.declared.fact.Fact.{Fact}
use Rattle.redl_left.specs.declared.line.Line.{Line}
use Rattle.redl_left.specs.declared.named.Named.{Named}
use Rattle.redl_left.specs.declared.named.Values.{Values}

-- the line tells this value
abbrev pub is_value_of : List ℕ → Line → Bool
is_value_of value line = bytes_eq line.value value

-- a line of the fact tells the value
abbrev pub named_in : List (List Line) → Fact → List ℕ → Bool
named_in tables fact value = get_or (map (λ lines. list_any (is_value_of value) lines) tables) (fact_number fact) false

-- ---- as code keeps them

-- the byte with which a value begins, or 0
abbrev pub front_byte : List ℕ → ℕ
front_byte [] = 0
front_byte (b ∷ bs) = b

-- the value is a key
abbrev pub has_in : {X : Type 0} → List ℕ → BTreeMap (Bor (List ℕ)) X → Bool
has_in value keys = is_some (get_by (λ k. slice_cmp nat_cmp value k.now) keys)

-- it is a key of the map of its first byte
abbrev pub has_value : Values → List ℕ → Bool
has_value values value = get_or (map (λ keys. has_in value keys) values.by_front.items) (front_byte value) false

-- whether a value is there once this one was added
abbrev pub added : List ℕ → List ℕ → Bool → Bool
added value other had = if bytes_eq value other then true else had

abbrev pub named_of : Named → Fact → List ℕ → Bool
named_of named fact value = get_or (map (λ values. has_value values value) named.tables.items) (fact_number fact) false
