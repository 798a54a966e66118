-- Declarations as the code keeps them, and the scope that they are.
use Rattle.std.specs.Prelude.{◌≡◌, ℕ, List, [], ◌∷◌, reverse, Option, Some, None}
use Rattle.std.specs.Borrow.{Bor}
use Rattle.std.specs.BTreeMap.{BTreeMap, get_by}
use Rattle.std.specs.Cmp.Lexicographic.{slice_cmp}
use Rattle.std.specs.Ordering.{nat_cmp}
use Rattle.redl_tree.specs.declared.kinds.Space.{Space}
use Rattle.redl_xml.specs.declared.scope.Declaration.{Declaration}
use Rattle.redl_xml.specs.Scopes.{Scope, nearest}

-- the scope of declarations, the nearest first in both
abbrev pub scope_by : List Declaration → Scope
scope_by [] = []
scope_by (d ∷ more) = (d.prefix.now, d.space) ∷ scope_by more

-- the scope of declarations with the nearest last
abbrev pub scope_view : List Declaration → Scope
scope_view ds = scope_by (reverse ds)

-- each keeps what its prefix was bound to before it
abbrev pub KeepFormer : List Declaration → Type 0
KeepFormer [] = Unit {0}
KeepFormer (d ∷ more) = (d.former ≡ nearest d.prefix.now (scope_by more)) × KeepFormer more

abbrev pub flat : Option (Option Space) → Option Space
flat None = None
flat (Some space) = space

-- what a map from prefixes has for a prefix
abbrev pub found : BTreeMap (Bor (List ℕ)) (Option Space) → List ℕ → Option Space
found map prefix = flat (get_by (λ k. slice_cmp nat_cmp prefix k.now) map)

-- the map finds the nearest of the declarations
pub record Agrees (map : BTreeMap (Bor (List ℕ)) (Option Space)) (ds : List Declaration) : Type 0 where
  pub finds : (prefix : List ℕ) → found map prefix ≡ nearest prefix (scope_view ds)
  pub formers : KeepFormer (reverse ds)
