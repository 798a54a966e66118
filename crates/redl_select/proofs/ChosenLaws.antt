-- The numbers that a selection chooses, as a list: ascending, and the right ones.
use Rattle.std.proofs.Common.{◌≡◌, ℕ, zero, suc, ◌+◌, ◌-◌, ◌<◌, Bool, true, false, cond, List, [], ◌∷◌, ◌++◌, length, get_or, take, Some, Ordering, Less, Equal, Greater, Contains, IsTrue, fold, refl, sym, ap, subst, ◌∙◌, ◌⊎◌, inl, inr, ◌↔◌, arith, Result, Ok, Err, IfOk, Vec, Global, ◌≤◌}
use Rattle.std.specs.Prelude.{◌&&◌, Any, IsSomeAnd, flat_map, max, min, nat_le, slice_get, slice_index_or}
use Rattle.std.specs.List.{AllByRecursion, list_any, range_with_len}
use Rattle.std.specs.List.Sorted.{IsStrictlyIncreasing, IsStrictlySortedBy}
use Rattle.std.specs.Ordering.{nat_cmp, match_ordering}
use Rattle.std.specs.Cmp.{nat_cmp_is}
use Rattle.std.specs.BTreeSet.{insert_key}
use Rattle.std.proofs.lemmas.List.{take_more, length-take-le}
use Rattle.std.proofs.lemmas.List.Elements.{Contains-append_cases, Contains-append_left, Contains-append_right}
use Rattle.std.proofs.lemmas.Bool.{and_from, and_parts, eq-eqb, eqb-true, le-leb, leb-true}
use Rattle.std.proofs.lemmas.List.Folds.{Any-from_list_any, list_any-from_Any}
use Rattle.std.proofs.lemmas.List.FromFn.{get_or-range_with_len, length-range_with_len}
use Rattle.std.proofs.lemmas.Option.{slice_get-get_or, slice_get_within}
use Rattle.std.proofs.lemmas.Map.Keys.{IsStrictlyIncreasing-from_sorted}
use Rattle.std.proofs.lemmas.Map.Lookups.{exact_unsigned}
use Rattle.redl_index.specs.declared.revision.Revision.{Revision}
use Rattle.redl_kinds.specs.declared.selection.Selection as code
use Rattle.redl_kinds.specs.declared.selection.Selection.TheVariants as variants
use Rattle.redl_kinds.specs.Views.{selection_of}
use Rattle.redl_kinds.specs.declared.selection.Listed.{Listed}
use Rattle.redl_kinds.specs.declared.selection.Listed.TheVariants.{One, Range}
use Rattle.redl_kinds.specs.Selections.{Selection, all, numbers, author, span, kind, group, edits, has_number}
use Rattle.redl_select.specs.Selections.{IsChosen, IsInRange, IsListed, asks_edits, chooses, revision_at, selects, numbers_between, listed_by, numbers_from, in_order, chosen}

-- ---- the loops

-- the numbers in one revision more
numbers_from-push : (s : Selection) (es : List ℕ) (n m : ℕ) (rs : List Revision) (r : Revision) → m ≡ n + length rs
    → numbers_from s es n (rs ++ r ∷ []) ≡ numbers_from s es n rs ++ cond (selects s es r) (m ∷ []) []
numbers_from-push s es n m [] r e = first (selects s es r) where
  first : (t : Bool) → cond {A = List ℕ} t (n ∷ []) [] ≡ cond t (m ∷ []) []
  first true = let same : n ≡ m = omega arith in ap (λ (k : ℕ). k ∷ []) same
  first false = refl
numbers_from-push s es n m (q ∷ rs) r e =
    step (selects s es q) (numbers_from s es (n + 1) (rs ++ r ∷ [])) (numbers_from s es (n + 1) rs) (cond (selects s es r) (m ∷ []) [])
    (numbers_from-push s es (n + 1) m rs r (omega arith)) where
      step : (t : Bool) (a b c : List ℕ) → a ≡ b ++ c → cond t (n ∷ a) a ≡ cond t (n ∷ b) b ++ c
      step true a b c h = ap (λ (l : List ℕ). n ∷ l) h
      step false a b c h = h

pub one_more : (s : Selection) (es : List ℕ) (rs : List Revision) (place number : ℕ) (t : Bool) → place < length rs → number ≡ place + 1
    → ((r : Revision) → slice_get rs (number - 1) ≡ Some r → 0 < number → t ≡ selects s es r)
    → numbers_from s es 1 (take (place + 1) rs) ≡ numbers_from s es 1 (take place rs) ++ cond t (number ∷ []) []
one_more s es [] place number t within is h = absurd (omega arith)
one_more s es (q ∷ qs) place number t within is h =
    let rs : List Revision = q ∷ qs in
    let r : Revision = get_or rs place q in
    let at : number - 1 ≡ place = omega arith in
    let found : slice_get rs (number - 1) ≡ Some r = rw at (slice_get-get_or rs place q within) in
    let test : t ≡ selects s es r = h r found (omega arith) in
    let size : number ≡ 1 + length (take place rs) = omega (arith, is, length-take-le place rs (omega (arith, within))) in
    ap (numbers_from s es 1) (take_more rs place q within) ∙ numbers_from-push s es 1 number (take place rs) r size
    ∙ ap (λ (b : Bool). numbers_from s es 1 (take place rs) ++ cond b (number ∷ []) []) (sym test)

-- one number more of a range
pub range_more : (first size : ℕ) → range_with_len first (suc size) ≡ range_with_len first size ++ (first + size) ∷ []
range_more first zero = let same : first ≡ first + 0 = omega arith in ap (λ (n : ℕ). n ∷ []) same
range_more first (suc size) =
    let same : (first + 1) + size ≡ first + suc size = omega arith in
    ap (λ (l : List ℕ). first ∷ l) (range_more (first + 1) size ∙ ap (λ (n : ℕ). range_with_len (first + 1) size ++ n ∷ []) same)

-- ---- ascending

pub nat_less : (m n : ℕ) → m < n → nat_cmp m n ≡ Less
nat_less m n h = sym (nat_cmp_is m n Less h)

numbers_above : (s : Selection) (es : List ℕ) (low n : ℕ) (rs : List Revision) → low < n → AllByRecursion (λ y. nat_cmp low y ≡ Less) (numbers_from s es n rs)
numbers_above s es low n [] h = tt
numbers_above s es low n (r ∷ rs) h = step (selects s es r) (numbers_above s es low (n + 1) rs (omega arith)) where
  step : (t : Bool) → AllByRecursion (λ y. nat_cmp low y ≡ Less) (numbers_from s es (n + 1) rs)
      → AllByRecursion (λ y. nat_cmp low y ≡ Less) (cond t (n ∷ numbers_from s es (n + 1) rs) (numbers_from s es (n + 1) rs))
  step true more = (nat_less low n h, more)
  step false more = more

pub numbers_sorted : (s : Selection) (es : List ℕ) (n : ℕ) (rs : List Revision) → IsStrictlySortedBy nat_cmp (numbers_from s es n rs)
unfolding IsStrictlySortedBy
numbers_sorted s es n [] = tt
numbers_sorted s es n (r ∷ rs) = step (selects s es r) (numbers_sorted s es (n + 1) rs) (numbers_above s es n (n + 1) rs (omega arith)) where
  step : (t : Bool) → IsStrictlySortedBy nat_cmp (numbers_from s es (n + 1) rs) → AllByRecursion (λ y. nat_cmp n y ≡ Less) (numbers_from s es (n + 1) rs)
      → IsStrictlySortedBy nat_cmp (cond t (n ∷ numbers_from s es (n + 1) rs) (numbers_from s es (n + 1) rs))
  step true more above = (above, more)
  step false more above = more

-- ---- the members of a list

head_there : (x : ℕ) (xs : List ℕ) → Contains (x ∷ xs) x
head_there x xs = (0, omega arith, refl)

later_there : (x y : ℕ) (xs : List ℕ) → Contains xs y → Contains (x ∷ xs) y
later_there x y xs h = (suc h.0, omega (arith, h.1), h.2)

there : (x y : ℕ) (xs : List ℕ) → Contains (x ∷ xs) y → (x ≡ y) ⊎ Contains xs y
there x y xs h = at h.0 h.1 h.2 where
  at : (k : ℕ) → k < length (x ∷ xs) → get_or (x ∷ xs) k y ≡ y → (x ≡ y) ⊎ Contains xs y
  at zero within is = inl is
  at (suc k) within is = inr (k, omega arith, is)

-- ---- the members of what is chosen among revisions

-- the selection means the revision at this place
abbrev IsAt : Selection → List ℕ → List Revision → ℕ → Type 0
IsAt s es rs place = IsSomeAnd (slice_get rs place) (λ r. IsTrue (selects s es r))

meant : (s : Selection) (es : List ℕ) (n k : ℕ) (rs : List Revision) → Contains (numbers_from s es n rs) k → (place : ℕ) × (k ≡ n + place) × IsAt s es rs place
meant s es n k [] h = absurd (omega (arith, h.1))
meant s es n k (r ∷ rs) h = step (selects s es r) refl (meant s es (n + 1) k rs) h where
  after : (place : ℕ) × (k ≡ (n + 1) + place) × IsAt s es rs place → (place : ℕ) × (k ≡ n + place) × IsAt s es (r ∷ rs) place
  after w = (suc w.0, omega (arith, w.1), w.2)

  step : (t : Bool) → selects s es r ≡ t → (Contains (numbers_from s es (n + 1) rs) k → (place : ℕ) × (k ≡ (n + 1) + place) × IsAt s es rs place)
      → Contains (cond t (n ∷ numbers_from s es (n + 1) rs) (numbers_from s es (n + 1) rs)) k → (place : ℕ) × (k ≡ n + place) × IsAt s es (r ∷ rs) place
  step true is rec h =
      elim (there n k (numbers_from s es (n + 1) rs) h) [
        | inl same ↦ (0, omega (arith, same), is)
        | inr later ↦ after (rec later)
      ]
  step false is rec h = after (rec h)

number_there : (s : Selection) (es : List ℕ) (n place : ℕ) (rs : List Revision) → IsAt s es rs place → Contains (numbers_from s es n rs) (n + place)
number_there s es n place [] h = absurd h
number_there s es n zero (r ∷ rs) h = rw h (subst (λ (k : ℕ). Contains (n ∷ numbers_from s es (n + 1) rs) k) (omega arith) (head_there n (numbers_from s es (n + 1) rs)))
number_there s es n (suc place) (r ∷ rs) h =
    let same : (n + 1) + place ≡ n + suc place = omega arith in
    let rest : Contains (numbers_from s es (n + 1) rs) (n + suc place) = subst (λ (k : ℕ). Contains (numbers_from s es (n + 1) rs) k) same (number_there s es (n + 1) place rs h) in
    step (selects s es r) rest where
      step : (t : Bool) → Contains (numbers_from s es (n + 1) rs) (n + suc place) → Contains (cond t (n ∷ numbers_from s es (n + 1) rs) (numbers_from s es (n + 1) rs)) (n + suc place)
      step true rest = later_there n (n + suc place) (numbers_from s es (n + 1) rs) rest
      step false rest = rest

-- a number is in the list where the selection means the revision that has it
abbrev IsMeant : Selection → List ℕ → List Revision → ℕ → Type 0
IsMeant s es rs number = IsSomeAnd (revision_at rs number) (λ r. IsTrue (selects s es r))

meant_numbers : (s : Selection) (es : List ℕ) (rs : List Revision) (number : ℕ) → Contains (numbers_from s es 1 rs) number ↔ IsMeant s es rs number
meant_numbers s es rs number = (to number, from number) where
  to : (number : ℕ) → Contains (numbers_from s es 1 rs) number → IsMeant s es rs number
  to number h =
      let w = meant s es 1 number rs h in
      let e : suc w.0 ≡ number = omega (arith, w.1) in
      subst (IsMeant s es rs) e w.2

  from : (number : ℕ) → IsMeant s es rs number → Contains (numbers_from s es 1 rs) number
  from zero h = absurd h
  from (suc place) h = subst (Contains (numbers_from s es 1 rs)) (omega arith) (number_there s es 1 place rs h)

-- ---- the members of a list in order

inserted : (xs : List ℕ) (x y : ℕ) → Contains (insert_key nat_cmp xs x) y → (x ≡ y) ⊎ Contains xs y
inserted [] x y h = there x y [] h
inserted (z ∷ zs) x y h = step (nat_cmp x z) (inserted zs x y) h where
  step : (o : Ordering) → (Contains (insert_key nat_cmp zs x) y → (x ≡ y) ⊎ Contains zs y)
      → Contains (match_ordering o (x ∷ z ∷ zs) (z ∷ zs) (z ∷ insert_key nat_cmp zs x)) y → (x ≡ y) ⊎ Contains (z ∷ zs) y
  step Less rec h = there x y (z ∷ zs) h
  step Equal rec h = inr h
  step Greater rec h =
      elim (there z y (insert_key nat_cmp zs x) h) [
        | inl same ↦ inr (subst (Contains (z ∷ zs)) same (head_there z zs))
        | inr later ↦
            elim (rec later) [
              | inl same ↦ inl same
              | inr old ↦ inr (later_there z y zs old)
            ]
      ]

insert_there : (xs : List ℕ) (x y : ℕ) → (x ≡ y) ⊎ Contains xs y → Contains (insert_key nat_cmp xs x) y
insert_there [] x y (inl same) = subst (Contains (x ∷ [])) same (head_there x [])
insert_there [] x y (inr h) = absurd (omega (arith, h.1))
insert_there (z ∷ zs) x y h = step (nat_cmp x z) refl (insert_there zs x y) h where
  step : (o : Ordering) → nat_cmp x z ≡ o → ((x ≡ y) ⊎ Contains zs y → Contains (insert_key nat_cmp zs x) y) → (x ≡ y) ⊎ Contains (z ∷ zs) y
      → Contains (match_ordering o (x ∷ z ∷ zs) (z ∷ zs) (z ∷ insert_key nat_cmp zs x)) y
  step Less is rec (inl same) = subst (Contains (x ∷ z ∷ zs)) same (head_there x (z ∷ zs))
  step Less is rec (inr old) = later_there x y (z ∷ zs) old
  step Equal is rec (inl same) = subst (Contains (z ∷ zs)) (sym (exact_unsigned x z is) ∙ same) (head_there z zs)
  step Equal is rec (inr old) = old
  step Greater is rec (inl same) = later_there z y (insert_key nat_cmp zs x) (rec (inl same))
  step Greater is rec (inr old) =
      elim (there z y zs old) [
        | inl same ↦ subst (Contains (z ∷ insert_key nat_cmp zs x)) same (head_there z (insert_key nat_cmp zs x))
        | inr later ↦ later_there z y (insert_key nat_cmp zs x) (rec (inr later))
      ]

put_in : (listed kept : List ℕ) (y : ℕ) → Contains (fold (insert_key nat_cmp) kept listed) y → Contains kept y ⊎ Contains listed y
put_in [] kept y h = inl h
put_in (x ∷ xs) kept y h =
    elim (put_in xs (insert_key nat_cmp kept x) y h) [
      | inl early ↦
          elim (inserted kept x y early) [
            | inl same ↦ inr (subst (Contains (x ∷ xs)) same (head_there x xs))
            | inr old ↦ inl old
          ]
      | inr late ↦ inr (later_there x y xs late)
    ]

is_put_in : (listed kept : List ℕ) (y : ℕ) → Contains kept y ⊎ Contains listed y → Contains (fold (insert_key nat_cmp) kept listed) y
is_put_in [] kept y (inl h) = h
is_put_in [] kept y (inr h) = absurd (omega (arith, h.1))
is_put_in (x ∷ xs) kept y (inl h) = is_put_in xs (insert_key nat_cmp kept x) y (inl (insert_there kept x y (inr h)))
is_put_in (x ∷ xs) kept y (inr h) =
    elim (there x y xs h) [
      | inl same ↦ is_put_in xs (insert_key nat_cmp kept x) y (inl (insert_there kept x y (inl same)))
      | inr later ↦ is_put_in xs (insert_key nat_cmp kept x) y (inr later)
    ]

pub in_order_numbers : (listed : List ℕ) (number : ℕ) → Contains (in_order listed) number ↔ Contains listed number
in_order_numbers listed number = (to, λ h. is_put_in listed [] number (inr h)) where
  to : Contains (in_order listed) number → Contains listed number
  to h =
      elim (put_in listed [] number h) [
        | inl none ↦ absurd (omega (arith, none.1))
        | inr found ↦ found
      ]

-- ---- what the items of a list choose

-- the numbers of a range
pub between_numbers : (first last number : ℕ) → Contains (numbers_between first last) number ↔ ((first ≤ number) × (number ≤ last))
between_numbers first last number = (to, from) where
  size : ℕ
  size = (last + 1) - first

  to : Contains (numbers_between first last) number → (first ≤ number) × (number ≤ last)
  to h =
      let within : h.0 < size = subst (λ (n : ℕ). h.0 < n) (length-range_with_len first size) h.1 in
      let is : first + h.0 ≡ number = sym (get_or-range_with_len first size h.0 number within) ∙ h.2 in
      (omega (arith, is), omega (arith, is, within))

  from : (first ≤ number) × (number ≤ last) → Contains (numbers_between first last) number
  from h =
      let within : number - first < size = omega (arith, h.0, h.1) in
      let is : first + (number - first) ≡ number = omega (arith, h.0) in
      (number - first, subst (λ (n : ℕ). number - first < n) (sym (length-range_with_len first size)) within, get_or-range_with_len first size (number - first) number within ∙ is)

item_numbers : (count number : ℕ) (item : Listed) → Contains (listed_by count item) number ↔ IsListed count number item
item_numbers count number (One one) = (to, λ is. subst (Contains (one ∷ [])) is (head_there one [])) where
  to : Contains (one ∷ []) number → one ≡ number
  to h =
      elim (there one number [] h) [
        | inl same ↦ same
        | inr none ↦ absurd (omega (arith, none.1))
      ]
item_numbers count number (Range first last) = (to, from) where
  end : ℕ
  end = min last (max first (count + 1))

  to : Contains (numbers_between first end) number → IsInRange count first last number
  to h =
      let both = (between_numbers first end number).0 h in
      record { begins = both.0; ends = omega (arith, both.1); stops = omega (arith, both.1) }

  from : IsInRange count first last number → Contains (numbers_between first end) number
  from h = (between_numbers first end number).1 (h.begins, omega (arith, h.ends, h.stops))

-- some item of a list, the first or a later one
first_any : {X : Type 0} (P : X → Type 0) (x : X) (xs : List X) → P x → Any P (x ∷ xs)
first_any P x xs h = (0, x, omega arith, refl, h)

later_any : {X : Type 0} (P : X → Type 0) (x : X) (xs : List X) → Any P xs → Any P (x ∷ xs)
later_any P x xs h = (suc h.0, h.1, omega (arith, h.2), h.3, h.4)

any_of : {X : Type 0} (P : X → Type 0) (x : X) (xs : List X) → Any P (x ∷ xs) → P x ⊎ Any P xs
any_of {X} P x xs h = at h.0 h.1 h.2 h.3 h.4 where
  at : (k : ℕ) (y : X) → k < length (x ∷ xs) → slice_index_or (x ∷ xs) k y ≡ y → P y → P x ⊎ Any P xs
  at zero y within is holds = inl (subst P (sym is) holds)
  at (suc k) y within is holds = inr (k, y, omega (arith, within), is, holds)

item_more : (count : ℕ) (item : Listed) (items : List Listed) (number : ℕ) → Contains (flat_map (listed_by count) items) number ↔ Any (IsListed count number) items
    → Contains (flat_map (listed_by count) (item ∷ items)) number ↔ Any (IsListed count number) (item ∷ items)
item_more count item items number rest = (to, from) where
  here : List ℕ
  here = listed_by count item

  later : List ℕ
  later = flat_map (listed_by count) items

  to : Contains (here ++ later) number → Any (IsListed count number) (item ∷ items)
  to h =
      elim (Contains-append_cases here later number h) [
        | inl of_item ↦ first_any (IsListed count number) item items ((item_numbers count number item).0 of_item)
        | inr of_others ↦ later_any (IsListed count number) item items (rest.0 of_others)
      ]

  from : Any (IsListed count number) (item ∷ items) → Contains (here ++ later) number
  from h =
      elim (any_of (IsListed count number) item items h) [
        | inl by_item ↦ Contains-append_left here later number ((item_numbers count number item).1 by_item)
        | inr by_others ↦ Contains-append_right here later number (rest.1 by_others)
      ]

all_numbers : (count : ℕ) (items : List Listed) (number : ℕ) → Contains (flat_map (listed_by count) items) number ↔ Any (IsListed count number) items
all_numbers count [] number = (λ h. absurd (omega (arith, h.1)), λ h. absurd (omega (arith, h.2)))
all_numbers count (item ∷ items) number = item_more count item items number (all_numbers count items number)

listed_numbers : (count : ℕ) (items : List Listed) (number : ℕ) → Contains (in_order (flat_map (listed_by count) items)) number ↔ Any (IsListed count number) items
listed_numbers count items number =
    let ordered = in_order_numbers (flat_map (listed_by count) items) number in
    let listed = all_numbers count items number in
    (λ h. listed.0 (ordered.0 h), λ h. ordered.1 (listed.1 h))

-- ---- both

pub chosen_numbers : (rs : List Revision) (s : Selection) (es : List ℕ) (number : ℕ) → Contains (chosen rs es s) number ↔ IsChosen rs es s number
chosen_numbers rs all es number = meant_numbers all es rs number
chosen_numbers rs (numbers listed) es number = listed_numbers (length rs) listed number
chosen_numbers rs (author name) es number = meant_numbers (author name) es rs number
chosen_numbers rs (span start end) es number = meant_numbers (span start end) es rs number
chosen_numbers rs (kind of_kind) es number = meant_numbers (kind of_kind) es rs number
chosen_numbers rs (group of_group) es number = meant_numbers (group of_group) es rs number
chosen_numbers rs (edits listed) es number = meant_numbers (edits listed) es rs number

-- ---- one revision

any_map : {X : Type 0} (P Q : X → Type 0) (xs : List X) → ((x : X) → P x → Q x) → Any P xs → Any Q xs
any_map P Q xs f h = (h.0, h.1, h.2, h.3, f h.1 h.4)

has_listed : (count number : ℕ) (item : Listed) → number ≤ count → (has_number number item ≡ true) ↔ IsListed count number item
has_listed count number (One one) within = (eqb-true one number, eq-eqb one number)
has_listed count number (Range first last) within = (to, from) where
  to : (nat_le first number && nat_le number last) ≡ true → IsInRange count first last number
  to h =
      let both = and_parts (nat_le first number) (nat_le number last) h in
      record { begins = leb-true first number both.0; ends = leb-true number last both.1; stops = omega (arith, within) }

  from : IsInRange count first last number → (nat_le first number && nat_le number last) ≡ true
  from h = and_from (nat_le first number) (nat_le number last) (le-leb first number h.begins) (le-leb number last h.ends)

listed_any : (count number : ℕ) (items : List Listed) → number ≤ count → (list_any (has_number number) items ≡ true) ↔ Any (IsListed count number) items
listed_any count number items within = (to, from) where
  P : Listed → Type 0
  P item = has_number number item ≡ true

  to : list_any (has_number number) items ≡ true → Any (IsListed count number) items
  to h = any_map P (IsListed count number) items (λ item. (has_listed count number item within).0) (Any-from_list_any (has_number number) items h)

  from : Any (IsListed count number) items → list_any (has_number number) items ≡ true
  from h = list_any-from_Any (has_number number) items (any_map (IsListed count number) P items (λ item. (has_listed count number item within).1) h)

-- a revision at its number is one of so many
number_within : (rs : List Revision) (number : ℕ) (r : Revision) → revision_at rs number ≡ Some r → number ≤ length rs
number_within rs zero r e = absurd cc
number_within rs (suc place) r e = slice_get_within rs place r e

pub chooses_chosen : (s : Selection) (es : List ℕ) (r : Revision) (rs : List Revision) → revision_at rs r.number ≡ Some r → IsTrue (chooses s es r) ↔ IsChosen rs es s r.number
chooses_chosen all es r rs e = rw e (λ h. h, λ h. h)
chooses_chosen (numbers listed) es r rs e = listed_any (length rs) r.number listed (number_within rs r.number r e)
chooses_chosen (author name) es r rs e = rw e (λ h. h, λ h. h)
chooses_chosen (span start end) es r rs e = rw e (λ h. h, λ h. h)
chooses_chosen (kind of_kind) es r rs e = rw e (λ h. h, λ h. h)
chooses_chosen (group of_group) es r rs e = rw e (λ h. h, λ h. h)
chooses_chosen (edits listed) es r rs e = rw e (λ h. h, λ h. h)

-- where no numbers are listed
pub chooses_unlisted : (r : Revision) (s : Selection) (es : List ℕ) → ((listed : List Listed) → s ≡ numbers listed → ⊥) → selects s es r ≡ chooses s es r
chooses_unlisted r all es h = refl
chooses_unlisted r (numbers listed) es h = absurd (h listed refl)
chooses_unlisted r (author name) es h = refl
chooses_unlisted r (span start end) es h = refl
chooses_unlisted r (kind of_kind) es h = refl
chooses_unlisted r (group of_group) es h = refl
chooses_unlisted r (edits listed) es h = refl

-- ---- the same from the facts of the code

pub ascending_ok : {E : Type 0} (r : Result (Vec ℕ Global) E) → IfOk r (λ v. IsStrictlySortedBy nat_cmp v.items) → IfOk r (λ v. IsStrictlyIncreasing v.items)
ascending_ok (Ok v) h = IsStrictlyIncreasing-from_sorted v.items h
ascending_ok (Err e) h = tt

pub meant_ascending : {E : Type 0} (r : Result (Vec ℕ Global) E) (s : Selection) (es : List ℕ) (rs : List Revision) → IfOk r (λ v. v.items ≡ numbers_from s es 1 rs) → IfOk r (λ v. IsStrictlyIncreasing v.items)
meant_ascending (Ok v) s es rs h = IsStrictlyIncreasing-from_sorted v.items (subst (IsStrictlySortedBy nat_cmp) (sym h) (numbers_sorted s es 1 rs))
meant_ascending (Err e) s es rs h = tt

pub chosen_ok : {E : Type 0} (r : Result (Vec ℕ Global) E) (rs : List Revision) (s : Selection) (es : List ℕ) → IfOk r (λ v. v.items ≡ chosen rs es s)
    → IfOk r (λ v. (number : ℕ) → Contains v.items number ↔ IsChosen rs es s number)
chosen_ok (Ok v) rs s es h = λ number. subst (λ (xs : List ℕ). Contains xs number ↔ IsChosen rs es s number) (sym h) (chosen_numbers rs s es number)
chosen_ok (Err e) rs s es h = tt

-- where no numbers are listed
unlisted : (rs : List Revision) (s : Selection) (es : List ℕ) → ((listed : List Listed) → s ≡ numbers listed → ⊥) → numbers_from s es 1 rs ≡ chosen rs es s
unlisted rs all es h = refl
unlisted rs (numbers listed) es h = absurd (h listed refl)
unlisted rs (author name) es h = refl
unlisted rs (span start end) es h = refl
unlisted rs (kind of_kind) es h = refl
unlisted rs (group of_group) es h = refl
unlisted rs (edits listed) es h = refl

pub unlisted_ok : {E : Type 0} (r : Result (Vec ℕ Global) E) (rs : List Revision) (s : Selection) (es : List ℕ) → ((listed : List Listed) → s ≡ numbers listed → ⊥)
    → IfOk r (λ v. v.items ≡ numbers_from s es 1 rs) → IfOk r (λ v. v.items ≡ chosen rs es s)
unlisted_ok (Ok v) rs s es h e = e ∙ unlisted rs s es h
unlisted_ok (Err x) rs s es h e = tt

pub not_listed : (s : code.Selection) → ((v : Vec Listed Global) → s ≡ variants.Numbers v → ⊥) → (listed : List Listed) → selection_of s ≡ numbers listed → ⊥
not_listed variants.All h listed e = cc
not_listed (variants.Numbers v) h listed e = h v refl
not_listed (variants.Author name) h listed e = cc
not_listed (variants.Span start end) h listed e = cc
not_listed (variants.Kind of_kind) h listed e = cc
not_listed (variants.Group of_group) h listed e = cc
not_listed (variants.Edits v) h listed e = cc

-- ---- a selection that doesn't ask for edits

selects-unasked : (s : Selection) (es fs : List ℕ) (r : Revision) → asks_edits s ≡ false → selects s es r ≡ selects s fs r
selects-unasked all es fs r h = refl
selects-unasked (numbers listed) es fs r h = refl
selects-unasked (author name) es fs r h = refl
selects-unasked (span start end) es fs r h = refl
selects-unasked (kind of_kind) es fs r h = refl
selects-unasked (group of_group) es fs r h = refl
selects-unasked (edits listed) es fs r h = absurd cc

numbers_from-unasked : (s : Selection) (es fs : List ℕ) (n : ℕ) (rs : List Revision) → asks_edits s ≡ false → numbers_from s es n rs ≡ numbers_from s fs n rs
numbers_from-unasked s es fs n [] h = refl
numbers_from-unasked s es fs n (r ∷ rs) h = rw (selects-unasked s es fs r h, numbers_from-unasked s es fs (n + 1) rs h) refl

-- by any edits it chooses the same numbers
pub chosen-unasked : (rs : List Revision) (es fs : List ℕ) (s : Selection) → asks_edits s ≡ false → chosen rs es s ≡ chosen rs fs s
chosen-unasked rs es fs all h = numbers_from-unasked all es fs 1 rs h
chosen-unasked rs es fs (numbers listed) h = refl
chosen-unasked rs es fs (author name) h = numbers_from-unasked (author name) es fs 1 rs h
chosen-unasked rs es fs (span start end) h = numbers_from-unasked (span start end) es fs 1 rs h
chosen-unasked rs es fs (kind of_kind) h = numbers_from-unasked (kind of_kind) es fs 1 rs h
chosen-unasked rs es fs (group of_group) h = numbers_from-unasked (group of_group) es fs 1 rs h
chosen-unasked rs es fs (edits listed) h = absurd cc

-- and the same revisions
pub chooses-unasked : (s : Selection) (es fs : List ℕ) (r : Revision) → asks_edits s ≡ false → chooses s es r ≡ chooses s fs r
chooses-unasked all es fs r h = refl
chooses-unasked (numbers listed) es fs r h = refl
chooses-unasked (author name) es fs r h = refl
chooses-unasked (span start end) es fs r h = refl
chooses-unasked (kind of_kind) es fs r h = refl
chooses-unasked (group of_group) es fs r h = refl
chooses-unasked (edits listed) es fs r h = absurd cc
