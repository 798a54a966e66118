-- Things by the names of those they are by (our own rule).
use Rattle.std.specs.Prelude.{ℕ, List, [], ◌∷◌, ◌++◌, map, filter}
use Rattle.std.specs.BTreeMap.{BTreeMap}
use Rattle.std.specs.BTreeSet.{insert_key}
use Rattle.std.specs.Cmp.Lexicographic.{slice_cmp}
use Rattle.std.specs.Global.{Vec}
use Rattle.std.specs.List.{fold}
use Rattle.std.specs.Map.Iter.{deref}
use Rattle.std.specs.Ordering.{match_ordering, nat_cmp}
use Rattle.std.specs.Str.{bytes_eq}
use denote.Ref.{Bor}

-- all things with one name, in their order
pub record Group (T : Type 0) : Type 0 where
  pub name : List ℕ
  pub items : List T

-- distinct names, by their bytes
abbrev pub names_in_order : List (List ℕ) → List (List ℕ)
names_in_order names = fold (insert_key (slice_cmp nat_cmp)) [] names

-- the things with this name
abbrev pub named : {T : Type 0} → (T → List ℕ) → List T → List ℕ → List T
named name_of items name = filter (λ item. bytes_eq (name_of item) name) items

abbrev pub group_of : {T : Type 0} → (T → List ℕ) → List T → List ℕ → Group T
group_of name_of items name = record { name = name; items = named name_of items name }

-- a group for each name, by the names' bytes
abbrev pub grouped : {T : Type 0} → (T → List ℕ) → List T → List (Group T)
grouped name_of items = map (group_of name_of items) (names_in_order (map name_of items))

-- ---- how they are kept

-- a group with these things
abbrev pub group_with : {T : Type 0} → List ℕ → List T → Group T
group_with name items = record { name = name; items = items }

-- the groups with one thing more, at the end of the group of its name
abbrev pub with_item : {T : Type 0} → List (Group T) → List ℕ → T → List (Group T)
with_item [] name item = group_with name (item ∷ []) ∷ []
with_item (group ∷ groups) name item = match_ordering (slice_cmp nat_cmp name group.name)
    (group_with name (item ∷ []) ∷ group ∷ groups)
    (group_with group.name (group.items ++ item ∷ []) ∷ groups)
    (group ∷ with_item groups name item)

-- an entry of the map as a group
abbrev pub group_at : {T : Type 0} → (Vec ℕ × Vec (Bor T)) → Group T
group_at kept = group_with kept.0.items (map deref kept.1.items)

-- the groups that a map keeps
abbrev pub groups_in : {T : Type 0} → BTreeMap (Vec ℕ) (Vec (Bor T)) → List (Group T)
groups_in groups = map group_at groups.entries
