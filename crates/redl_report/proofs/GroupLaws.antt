-- A thing more in its group.
use Rattle.std.proofs.Common.{◌≡◌, ◌∙◌, ◌≤◌, ℕ, Bool, true, false, cond, List, [], ◌∷◌, ◌++◌, map, filter, length, arith, Ordering, Less, Equal, Greater, refl, sym, ap, true≢false}
use Rattle.std.specs.BTreeSet.{insert_key}
use Rattle.std.specs.Cmp.Lexicographic.{slice_cmp}
use Rattle.std.specs.List.{AllByRecursion, fold, list_any}
use Rattle.std.specs.List.Sorted.{IsStrictlySortedBy}
use Rattle.std.specs.Cmp.{IsTotalOrder}
use Rattle.std.specs.Ordering.{is_eq, match_ordering, nat_cmp}
use Rattle.std.specs.Str.{bytes_eq}
use Rattle.std.proofs.lemmas.List.{map_push, append-nil}
use Rattle.std.proofs.lemmas.Cmp.{nat_list_cmp_total}
use Rattle.std.proofs.lemmas.Map.Lookups.{exact_bytes}
use Rattle.std.proofs.lemmas.Map.Text.{is_eq-slice_cmp}
use Rattle.std.proofs.lemmas.Bool.{or_parts, or_from}
use Rattle.redl_join.proofs.Lists.{any_insert, below, sorted_insert}
use Rattle.redl_join.proofs.NumbersOf.{bytes_same, same_bytes}
use Rattle.redl_report.specs.Groups.{Group, group_of, group_with, grouped, named, names_in_order, with_item}

abbrev pub order : List ℕ → List ℕ → Ordering
order = slice_cmp nat_cmp

-- ---- lists that grow at their ends

pub fold-more : {A B : Type 0} (f : B → A → B) (acc : B) (xs : List A) (x : A) → fold f acc (xs ++ x ∷ []) ≡ f (fold f acc xs) x
fold-more f acc [] x = refl
fold-more f acc (y ∷ ys) x = fold-more f (f acc y) ys x

pub filter-more : {A : Type 0} (p : A → Bool) (xs : List A) (x : A) → filter p (xs ++ x ∷ []) ≡ filter p xs ++ cond (p x) (x ∷ []) []
filter-more p [] x = refl
filter-more p (y ∷ ys) x = by (p y) (filter-more p ys x) where
  by : (b : Bool) → filter p (ys ++ x ∷ []) ≡ filter p ys ++ cond (p x) (x ∷ []) []
      → cond b (y ∷ filter p (ys ++ x ∷ [])) (filter p (ys ++ x ∷ [])) ≡ cond b (y ∷ filter p ys) (filter p ys) ++ cond (p x) (x ∷ []) []
  by true rest = ap (λ zs. y ∷ zs) rest
  by false rest = rest

-- ---- names in order

module _ {K : Type 0} (R : K → K → Ordering) where
  pub keys-sorted : IsTotalOrder R → (acc keys : List K) → IsStrictlySortedBy R acc → IsStrictlySortedBy R (fold (insert_key R) acc keys)
  keys-sorted total acc [] sorted = sorted
  keys-sorted total acc (key ∷ keys) sorted = keys-sorted total (insert_key R acc key) keys (sorted_insert total acc key sorted)

  pub none-sorted : IsStrictlySortedBy R []
  unfolding IsStrictlySortedBy
  none-sorted = tt

  -- what holds of all keys holds of those in order
  keys-insert : (P : K → Type 0) (keys : List K) (key : K) → AllByRecursion P keys → P key → AllByRecursion P (insert_key R keys key)
  keys-insert P [] key all own = (own, tt)
  keys-insert P (k ∷ ks) key all own = by (R key k) (keys-insert P ks key all.1 own) where
    by : (r : Ordering) → AllByRecursion P (insert_key R ks key) → AllByRecursion P (match_ordering r (key ∷ k ∷ ks) (k ∷ ks) (k ∷ insert_key R ks key))
    by Less rest = (own, all)
    by Equal rest = all
    by Greater rest = (all.0, rest)

  pub keys-all : (P : K → Type 0) (acc keys : List K) → AllByRecursion P acc → AllByRecursion P keys → AllByRecursion P (fold (insert_key R) acc keys)
  keys-all P acc [] all others = all
  keys-all P acc (key ∷ keys) all others = keys-all P (insert_key R acc key) keys (keys-insert P acc key all others.0) others.1

-- a name that the names in order don't have isn't one of the names
absent : (acc names : List (List ℕ)) (name : List ℕ) → list_any (λ n. is_eq (order name n)) (fold (insert_key order) acc names) ≡ false
    → (list_any (λ n. is_eq (order name n)) acc ≡ false) × (list_any (λ n. is_eq (order name n)) names ≡ false)
absent acc [] name none = (none, refl)
absent acc (other ∷ names) name none =
    let rest = absent (insert_key order acc other) names name none in
    let parts = or_parts (is_eq (order name other)) (list_any (λ n. is_eq (order name n)) acc) (sym (any_insert nat_list_cmp_total name acc other) ∙ rest.0) in
    (parts.1, or_from (is_eq (order name other)) (list_any (λ n. is_eq (order name n)) names) parts.0 rest.1)

-- another name, seen from the other side
pub other_name : (a b : List ℕ) → is_eq (order a b) ≡ false → bytes_eq b a ≡ false
other_name a b h = by (bytes_eq b a) refl where
  by : (test : Bool) → bytes_eq b a ≡ test → test ≡ false
  by false is = refl
  by true is = absurd (true≢false (sym (bytes_same a b (sym (same_bytes b a is))) ∙ sym (is_eq-slice_cmp a b) ∙ h))

-- ---- a group more, or a thing more in one

module _ {T : Type 0} (name_of : T → List ℕ) where
  -- nothing has a name that isn't one of theirs
  none_named : (items : List T) (name : List ℕ) → list_any (λ n. is_eq (order name n)) (map name_of items) ≡ false → named name_of items name ≡ []
  none_named [] name none = refl
  none_named (item ∷ items) name none = by (bytes_eq (name_of item) name) own (none_named items name parts.1) where
    parts : (is_eq (order name (name_of item)) ≡ false) × (list_any (λ n. is_eq (order name n)) (map name_of items) ≡ false)
    parts = or_parts (is_eq (order name (name_of item))) (list_any (λ n. is_eq (order name n)) (map name_of items)) none

    own : bytes_eq (name_of item) name ≡ false
    own = other_name name (name_of item) parts.0

    by : (b : Bool) → b ≡ false → named name_of items name ≡ [] → cond b (item ∷ named name_of items name) (named name_of items name) ≡ []
    by true h rest = absurd (true≢false h)
    by false h rest = rest

  module _ (items : List T) (item : T) where
    abbrev name : List ℕ
    name = name_of item

    -- the group of another name
    other_group : (n : List ℕ) → bytes_eq name n ≡ false → group_of name_of (items ++ item ∷ []) n ≡ group_of name_of items n
    other_group n other =
        ap (λ (xs : List T). group_with n xs) (filter-more (λ i. bytes_eq (name_of i) n) items item ∙ ap (λ b. named name_of items n ++ cond b (item ∷ []) []) other ∙ append-nil (named name_of items n))

    other_groups : (ns : List (List ℕ)) → AllByRecursion (λ n. order name n ≡ Less) ns → map (group_of name_of (items ++ item ∷ [])) ns ≡ map (group_of name_of items) ns
    other_groups [] h = refl
    other_groups (n ∷ ns) h =
        ap (λ g. g ∷ map (group_of name_of (items ++ item ∷ [])) ns) (other_group n (sym (is_eq-slice_cmp name n) ∙ ap is_eq h.0))
        ∙ ap (λ gs. group_of name_of items n ∷ gs) (other_groups ns h.1)

    -- the group of its own name
    own_group : (n : List ℕ) → bytes_eq name n ≡ true → group_of name_of (items ++ item ∷ []) n ≡ group_with n (named name_of items n ++ item ∷ [])
    own_group n own =
        ap (λ (xs : List T). group_with n xs) (filter-more (λ i. bytes_eq (name_of i) n) items item ∙ ap (λ b. named name_of items n ++ cond b (item ∷ []) []) own)

    new_group : named name_of items name ≡ [] → group_of name_of (items ++ item ∷ []) name ≡ group_with name (item ∷ [])
    new_group none = own_group name (bytes_same name name refl) ∙ ap (λ (xs : List T). group_with name (xs ++ item ∷ [])) none

    step : (ns : List (List ℕ)) → IsStrictlySortedBy order ns → (list_any (λ n. is_eq (order name n)) ns ≡ false → named name_of items name ≡ [])
        → with_item (map (group_of name_of items) ns) name item ≡ map (group_of name_of (items ++ item ∷ [])) (insert_key order ns name)
    unfolding IsStrictlySortedBy
    step [] sorted none = ap (λ g. g ∷ []) (sym (new_group (none refl)))
    step (n ∷ ns) sorted none = by (order name n) refl (step ns sorted.1) where
      absent_in : (ms : List (List ℕ)) → AllByRecursion (λ m. order name m ≡ Less) ms → list_any (λ m. is_eq (order name m)) ms ≡ false
      absent_in [] h = refl
      absent_in (m ∷ ms) h = rw h.0 (absent_in ms h.1)

      by : (r : Ordering) → order name n ≡ r
          → ((list_any (λ n. is_eq (order name n)) ns ≡ false → named name_of items name ≡ [])
          → with_item (map (group_of name_of items) ns) name item ≡ map (group_of name_of (items ++ item ∷ [])) (insert_key order ns name))
          → match_ordering r (group_with name (item ∷ []) ∷ group_of name_of items n ∷ map (group_of name_of items) ns)
          (group_with n (named name_of items n ++ item ∷ []) ∷ map (group_of name_of items) ns)
          (group_of name_of items n ∷ with_item (map (group_of name_of items) ns) name item)
          ≡ map (group_of name_of (items ++ item ∷ [])) (match_ordering r (name ∷ n ∷ ns) (n ∷ ns) (n ∷ insert_key order ns name))
      by Less is rest =
          let all : AllByRecursion (λ m. order name m ≡ Less) (n ∷ ns) = (is, below nat_list_cmp_total name n ns is sorted.0) in
          ap (λ g. g ∷ group_of name_of items n ∷ map (group_of name_of items) ns) (sym (new_group (none (absent_in (n ∷ ns) all))))
          ∙ ap (λ gs. group_of name_of (items ++ item ∷ []) name ∷ gs) (sym (other_groups (n ∷ ns) all))
      by Equal is rest =
          let same : name ≡ n = exact_bytes name n is in
          let all : AllByRecursion (λ m. order name m ≡ Less) ns = rw same sorted.0 in
          ap (λ g. g ∷ map (group_of name_of items) ns) (sym (own_group n (bytes_same name n same)))
          ∙ ap (λ gs. group_of name_of (items ++ item ∷ []) n ∷ gs) (sym (other_groups ns all))
      by Greater is rest =
          ap (λ g. g ∷ with_item (map (group_of name_of items) ns) name item) (sym (other_group n (sym (is_eq-slice_cmp name n) ∙ ap is_eq is)))
          ∙ ap (λ gs. group_of name_of (items ++ item ∷ []) n ∷ gs) (rest (λ h. none (rw is h)))

  pub grouped-more : (items : List T) (item : T) → with_item (grouped name_of items) (name_of item) item ≡ grouped name_of (items ++ item ∷ [])
  grouped-more items item =
      step items item (names_in_order (map name_of items)) (keys-sorted order nat_list_cmp_total [] (map name_of items) (none-sorted order))
      (λ none. none_named items (name_of item) (absent [] (map name_of items) (name_of item) none).1)
      ∙ ap (λ ns. map (group_of name_of (items ++ item ∷ [])) ns)
      (sym (fold-more (insert_key order) [] (map name_of items) (name_of item)) ∙ ap names_in_order (sym (map_push name_of items item)))

  -- no group is longer than all things
  pub no-longer : (items : List T) → AllByRecursion (λ (group : Group T). length group.items ≤ length items) (grouped name_of items)
  no-longer items = each (names_in_order (map name_of items)) where
    shorter : (name : List ℕ) (xs : List T) → length (named name_of xs name) ≤ length xs
    shorter name [] = omega arith
    shorter name (x ∷ xs) = by (bytes_eq (name_of x) name) (shorter name xs) where
      by : (b : Bool) → length (named name_of xs name) ≤ length xs → length (cond b (x ∷ named name_of xs name) (named name_of xs name)) ≤ length (x ∷ xs)
      by true rest = omega (arith, rest)
      by false rest = omega (arith, rest)

    each : (names : List (List ℕ)) → AllByRecursion (λ (group : Group T). length group.items ≤ length items) (map (group_of name_of items) names)
    each [] = tt
    each (name ∷ names) = (shorter name items, each names)
