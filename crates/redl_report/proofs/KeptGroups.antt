-- Groups that a map keeps: a thing more in one, or a group more.
use Rattle.std.proofs.Common.{◌≡◌, ◌∙◌, ℕ, Bool, cond, Global, Vec, List, [], ◌∷◌, ◌++◌, map, Some, None, Ordering, Less, Equal, Greater, refl, sym, ap}
use Rattle.std.specs.BTreeMap.{insert_entry, is_at}
use Rattle.std.specs.Cmp.Lexicographic.{slice_cmp}
use Rattle.std.specs.List.{AllByRecursion}
use Rattle.std.specs.List.Sorted.{IsStrictlySortedBy}
use Rattle.std.specs.Map.{keys_of, lookup, set_value}
use Rattle.std.specs.Map.Iter.{deref}
use Rattle.std.specs.Ordering.{is_eq, match_ordering, nat_cmp}
use Rattle.std.proofs.lemmas.List.{map_push}
use Rattle.std.proofs.lemmas.Cmp.{nat_list_cmp_total}
use Rattle.std.proofs.lemmas.Map.Keys.{sorted_head, sorted_tail}
use denote.Ref.{Bor}
use Rattle.redl_report.specs.Groups.{group_at, group_with, with_item}

-- the order of names, as the map has it
abbrev pub key_order : Vec ℕ Global → Vec ℕ Global → Ordering
key_order key other = slice_cmp nat_cmp key.items other.items

-- a test for a name
abbrev pub is_name : List ℕ → Vec ℕ Global → Bool
is_name name = is_at (λ key. slice_cmp nat_cmp name key.items)

abbrev Kept : Type 0 → Type 0
Kept T = List (Vec ℕ Global × Vec (Bor T) Global)

-- a name below all keys isn't one of them
none-below : {X : Type 0} (es : List (Vec ℕ Global × X)) (name : List ℕ) → AllByRecursion (λ key. slice_cmp nat_cmp name key.items ≡ Less) (keys_of es) → lookup (is_name name) es ≡ None
none-below [] name all = refl
none-below (e ∷ es) name all = rw all.0 (none-below es name all.1)

-- what is below a key is below those after it
all-below : (name : List ℕ) (key : Vec ℕ Global) (keys : List (Vec ℕ Global)) → slice_cmp nat_cmp name key.items ≡ Less → AllByRecursion (λ other. key_order key other ≡ Less) keys
    → AllByRecursion (λ other. slice_cmp nat_cmp name other.items ≡ Less) keys
all-below name key [] less all = tt
all-below name key (k ∷ ks) less all = (nat_list_cmp_total.trans name key.items k.items less all.0, all-below name key ks less all.1)

module _ {T : Type 0} where
  -- a thing more in the group that is there
  pub group-set : (kept : Kept T) (name : List ℕ) (item : Bor T) (others grown : Vec (Bor T) Global) → IsStrictlySortedBy key_order (keys_of kept)
      → lookup (is_name name) kept ≡ Some others → grown.items ≡ others.items ++ item ∷ []
      → map group_at (set_value (is_name name) kept grown) ≡ with_item (map group_at kept) name item.now
  group-set [] name item others grown sorted found more = absurd cc
  group-set (e ∷ es) name item others grown sorted found more = by (slice_cmp nat_cmp name e.0.items) refl (group-set es name item others grown (sorted_tail key_order e.0 (keys_of es) sorted)) where
    by : (r : Ordering) → slice_cmp nat_cmp name e.0.items ≡ r
        → (lookup (is_name name) es ≡ Some others → grown.items ≡ others.items ++ item ∷ []
        → map group_at (set_value (is_name name) es grown) ≡ with_item (map group_at es) name item.now)
        → map group_at (cond (is_eq r) ((e.0, grown) ∷ es) (e ∷ set_value (is_name name) es grown))
        ≡ match_ordering r (group_with name (item.now ∷ []) ∷ group_at e ∷ map group_at es)
        (group_with e.0.items (map deref e.1.items ++ item.now ∷ []) ∷ map group_at es)
        (group_at e ∷ with_item (map group_at es) name item.now)
    by Less is rest =
        let none = none-below es name (all-below name e.0 (keys_of es) is (sorted_head key_order e.0 (keys_of es) sorted)) in
        let found_there : lookup (is_name name) es ≡ Some others = rw is at found in
        absurd cc
    by Equal is rest =
        let there : Some e.1 ≡ Some others = rw is at found in
        let own : e.1 ≡ others = cc in
        ap (λ (xs : List T). group_with e.0.items xs ∷ map group_at es)
        (ap (map deref) more ∙ map_push deref others.items item ∙ ap (λ (v : Vec (Bor T) Global). map deref v.items ++ item.now ∷ []) (sym own))
    by Greater is rest = ap (λ gs. group_at e ∷ gs) (rest (rw is at found) more)

  -- a group more
  pub group-new : (kept : Kept T) (key : Vec ℕ Global) (item : Bor T) (first : Vec (Bor T) Global) → lookup (is_name key.items) kept ≡ None → first.items ≡ item ∷ []
      → map group_at (insert_entry key_order kept key first) ≡ with_item (map group_at kept) key.items item.now
  group-new [] key item first none one = ap (λ (xs : List (Bor T)). group_with key.items (map deref xs) ∷ []) one
  group-new (e ∷ es) key item first none one = by (key_order key e.0) refl (group-new es key item first) where
    by : (r : Ordering) → key_order key e.0 ≡ r
        → (lookup (is_name key.items) es ≡ None → first.items ≡ item ∷ [] → map group_at (insert_entry key_order es key first) ≡ with_item (map group_at es) key.items item.now)
        → map group_at (match_ordering r ((key, first) ∷ e ∷ es) ((e.0, first) ∷ es) (e ∷ insert_entry key_order es key first))
        ≡ match_ordering r (group_with key.items (item.now ∷ []) ∷ group_at e ∷ map group_at es)
        (group_with e.0.items (map deref e.1.items ++ item.now ∷ []) ∷ map group_at es)
        (group_at e ∷ with_item (map group_at es) key.items item.now)
    by Less is rest = ap (λ (xs : List (Bor T)). group_with key.items (map deref xs) ∷ group_at e ∷ map group_at es) one
    by Equal is rest = let found : Some e.1 ≡ None = rw is at none in absurd cc
    by Greater is rest = ap (λ gs. group_at e ∷ gs) (rest (rw is at none) one)
