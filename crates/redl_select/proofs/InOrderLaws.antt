-- The numbers within bounds that are in the order of their first numbers: ascending, and what the items list.
use Rattle.std.proofs.Common.{BTreeSet, ◌≡◌, ℕ, zero, suc, ◌+◌, ◌-◌, ◌<◌, ◌≤◌, Bool, true, false, List, [], ◌∷◌, ◌++◌, length, get_or, map, Ordering, Less, Equal, Greater, Contains, IsTrue, fold, drop, drop-cons, append-nil, Result, Ok, Err, IfOk, Vec, Global, refl, sym, ap, subst, ◌∙◌, inl, inr, ◌↔◌, arith, append_assoc}
use Rattle.std.specs.Prelude.{◌&&◌, ◌||◌, flat_map, max, nat_le}
use Rattle.std.specs.List.{AllByRecursion, list_any, range_with_len}
use Rattle.std.specs.List.Sorted.{IsNonDecreasingBy, IsPermutation, IsStrictlySortedBy}
use Rattle.std.specs.Ordering.{nat_cmp, match_ordering, ordering_reverse}
use Rattle.std.specs.Cmp.{IsTotalOrder, nat_cmp_total}
use Rattle.std.specs.BTreeSet.{contains, insert_key}
use Rattle.std.proofs.lemmas.Bool.{and_from, and_parts, le-leb, leb-false, leb-true, or_left, or_right}
use Rattle.std.proofs.lemmas.List.Elements.{Contains-append_cases, Contains-append_left, Contains-append_right}
use Rattle.std.proofs.lemmas.List.Folds.{Any-from_list_any}
use Rattle.std.proofs.lemmas.List.{drop_all}
use Rattle.std.proofs.lemmas.List.Sorted.{list_any-IsPermutation}
use Rattle.std.proofs.lemmas.Map.Lookups.{btree_set_from_contains, exact_unsigned}
use Rattle.std.proofs.lemmas.Map.Views.{btree_set_contains_iff}
use Rattle.redl_kinds.specs.declared.selection.Listed.{Listed}
use Rattle.redl_kinds.specs.declared.selection.Listed.TheVariants.{One, Range}
use Rattle.redl_select.specs.declared.in_order.Bounds.{Bounds}
use Rattle.redl_select.specs.Selections.{bounds_of, in_order, listed_by, numbers_between, numbers_within}
use Rattle.redl_select.proofs.ChosenLaws.{between_numbers, in_order_numbers, nat_less, range_more}

-- ---- the loops

-- one number more
pub number_more : (old numbers new : List ℕ) (first number : ℕ) → first ≤ number → numbers ≡ old ++ range_with_len first (number - first)
    → new ≡ numbers ++ number ∷ [] → new ≡ old ++ range_with_len first ((number + 1) - first)
number_more old numbers new first number h was is =
    let size : (number + 1) - first ≡ suc (number - first) = omega (arith, h) in
    let last : first + (number - first) ≡ number = omega (arith, h) in
    is ∙ ap (λ (l : List ℕ). l ++ number ∷ []) was ∙ append_assoc old (range_with_len first (number - first)) (number ∷ [])
    ∙ ap (λ (l : List ℕ). old ++ l)
    (sym (ap (range_with_len first) size ∙ range_more first (number - first) ∙ ap (λ (n : ℕ). range_with_len first (number - first) ++ n ∷ []) last))

-- the numbers of the next bounds
pub bounds_more : (all : List Bounds) (i : ℕ) (d : Bounds) (next end : ℕ) (numbers new whole : List ℕ) → i < length all → end ≡ (get_or all i d).last + 1
    → numbers ++ numbers_within next (drop i all) ≡ whole
    → new ≡ numbers ++ range_with_len (max next (get_or all i d).first) (end - max next (get_or all i d).first)
    → new ++ numbers_within (max next end) (drop (i + 1) all) ≡ whole
bounds_more all i d next end numbers new whole within stop was is =
    let b : Bounds = get_or all i d in
    let later : List ℕ = numbers_within (max next (b.last + 1)) (drop (i + 1) all) in
    let after : suc i ≡ i + 1 = omega arith in
    let here : drop i all ≡ b ∷ drop (i + 1) all = drop-cons all i d within ∙ ap (λ (n : ℕ). b ∷ drop n all) after in
    rw (is, stop) (append_assoc numbers (numbers_between (max next b.first) b.last) later ∙ sym (ap (λ (bs : List Bounds). numbers ++ numbers_within next bs) here) ∙ was)

pub within_ended : (all : List Bounds) (i next : ℕ) (numbers whole : List ℕ) → length all ≤ i → numbers ++ numbers_within next (drop i all) ≡ whole → numbers ≡ whole
within_ended all i next numbers whole ended was =
    sym (append-nil numbers) ∙ ap (λ (bs : List Bounds). numbers ++ numbers_within next bs) (sym (drop_all i all ended)) ∙ was

-- ---- the numbers of one bound after the other

-- the bounds have the number
abbrev has : ℕ → Bounds → Bool
has number bounds = nat_le bounds.first number && nat_le number bounds.last

has_from : (number : ℕ) (b : Bounds) → b.first ≤ number → number ≤ b.last → has number b ≡ true
has_from number b above below = and_from _ _ (le-leb b.first number above) (le-leb number b.last below)

has_parts : (number : ℕ) (b : Bounds) → has number b ≡ true → (b.first ≤ number) × (number ≤ b.last)
has_parts number b h =
    let both = and_parts (nat_le b.first number) (nat_le number b.last) h in
    (leb-true b.first number both.0, leb-true number b.last both.1)

-- where the bounds are in the order of their first numbers, the first of all is no greater than a number that some have
first_below : (b : Bounds) (bs : List Bounds) (number : ℕ) → IsNonDecreasingBy (λ (x : Bounds). x.first) (b ∷ bs) → list_any (has number) (b ∷ bs) ≡ true → b.first ≤ number
first_below b bs number up found =
    let some = Any-from_list_any (has number) (b ∷ bs) found in
    let first : b.first ≤ (get_or (b ∷ bs) some.0 some.1).first = up 0 some.0 some.1 (omega arith) some.2 in
    let same : b.first ≤ some.1.first = subst (λ (x : Bounds). b.first ≤ x.first) some.3 first in
    omega (arith, same, (has_parts number some.1 some.4).0)

others_rise : (b : Bounds) (bs : List Bounds) → IsNonDecreasingBy (λ (x : Bounds). x.first) (b ∷ bs) → IsNonDecreasingBy (λ (x : Bounds). x.first) bs
others_rise b bs up = λ i j d le lt. up (suc i) (suc j) d (omega (arith, le)) (omega (arith, lt))

or_later : (t others : Bool) → (t ≡ true → ⊥) → (t || others) ≡ true → others ≡ true
or_later true others never h = absurd (never refl)
or_later false others never h = h

-- a number that some bounds have is among them, from the next one on
is_within : (all : List Bounds) (next number : ℕ) → IsNonDecreasingBy (λ (x : Bounds). x.first) all → next ≤ number → list_any (has number) all ≡ true
    → Contains (numbers_within next all) number
is_within [] next number up above found = absurd cc
is_within (b ∷ bs) next number up above found =
    by (nat_le number b.last) refl (is_within bs (max next (b.last + 1)) number (others_rise b bs up)) where
      here : List ℕ
      here = numbers_between (max next b.first) b.last

      later : List ℕ
      later = numbers_within (max next (b.last + 1)) bs

      by : (t : Bool) → nat_le number b.last ≡ t → (max next (b.last + 1) ≤ number → list_any (has number) bs ≡ true → Contains later number) → Contains (here ++ later) number
      by true is rec =
          let first = first_below b bs number up found in
          let last = leb-true number b.last is in
          Contains-append_left here later number ((between_numbers (max next b.first) b.last number).1 (omega (arith, first, above), last))
      by false is rec =
          let over : b.last < number = leb-false number b.last is in
          Contains-append_right here later number
          (rec (omega (arith, above, over)) (or_later (has number b) (list_any (has number) bs) (λ yes. let below = (has_parts number b yes).1 in absurd (omega (arith, over, below))) found))

within_has : (all : List Bounds) (next number : ℕ) → Contains (numbers_within next all) number → (next ≤ number) × (list_any (has number) all ≡ true)
within_has [] next number h = absurd (omega (arith, h.1))
within_has (b ∷ bs) next number h =
    elim (Contains-append_cases (numbers_between (max next b.first) b.last) (numbers_within (max next (b.last + 1)) bs) number h) [
      | inl here ↦
          let both = (between_numbers (max next b.first) b.last number).0 here in
          (omega (arith, both.0), or_left (has number b) (list_any (has number) bs) (has_from number b (omega (arith, both.0)) both.1))
      | inr later ↦
          let rest = within_has bs (max next (b.last + 1)) number later in
          (omega (arith, rest.0), or_right (has number b) (list_any (has number) bs) rest.1)
    ]

-- ---- ascending

range_above : (low first size : ℕ) (later : List ℕ) → low < first → AllByRecursion (λ y. nat_cmp low y ≡ Less) later
    → AllByRecursion (λ y. nat_cmp low y ≡ Less) (range_with_len first size ++ later)
range_above low first zero later lt all = all
range_above low first (suc size) later lt all = (nat_less low first lt, range_above low (first + 1) size later (omega (arith, lt)) all)

within_above : (low next : ℕ) (all : List Bounds) → low < next → AllByRecursion (λ y. nat_cmp low y ≡ Less) (numbers_within next all)
within_above low next [] lt = tt
within_above low next (b ∷ bs) lt =
    range_above low (max next b.first) ((b.last + 1) - max next b.first) (numbers_within (max next (b.last + 1)) bs) (omega (arith, lt))
    (within_above low (max next (b.last + 1)) bs (omega (arith, lt)))

range_sorted : (first size : ℕ) (later : List ℕ) → ((low : ℕ) → first ≤ low → low < first + size → AllByRecursion (λ y. nat_cmp low y ≡ Less) later)
    → IsStrictlySortedBy nat_cmp later → IsStrictlySortedBy nat_cmp (range_with_len first size ++ later)
unfolding IsStrictlySortedBy
range_sorted first zero later below sorted = sorted
range_sorted first (suc size) later below sorted = (
  range_above first (first + 1) size later (omega arith) (below first (omega arith) (omega arith)),
  range_sorted (first + 1) size later (λ low le lt. below low (omega (arith, le)) (omega (arith, lt))) sorted,
)

pub within_sorted : (next : ℕ) (all : List Bounds) → IsStrictlySortedBy nat_cmp (numbers_within next all)
unfolding IsStrictlySortedBy
within_sorted next [] = tt
within_sorted next (b ∷ bs) =
    range_sorted (max next b.first) ((b.last + 1) - max next b.first) (numbers_within (max next (b.last + 1)) bs)
    (λ low le lt. within_above low (max next (b.last + 1)) bs (omega (arith, le, lt))) (within_sorted (max next (b.last + 1)) bs)

insert_all : (P : ℕ → Type 0) (xs : List ℕ) (x : ℕ) → AllByRecursion P xs → P x → AllByRecursion P (insert_key nat_cmp xs x)
insert_all P [] x all own = (own, tt)
insert_all P (z ∷ zs) x all own = by (nat_cmp x z) (insert_all P zs x all.1 own) where
  by : (o : Ordering) → AllByRecursion P (insert_key nat_cmp zs x) → AllByRecursion P (match_ordering o (x ∷ z ∷ zs) (z ∷ zs) (z ∷ insert_key nat_cmp zs x))
  by Less rest = (own, all)
  by Equal rest = all
  by Greater rest = (all.0, rest)

order : IsTotalOrder nat_cmp
order = nat_cmp_total

all_above : (x z : ℕ) (zs : List ℕ) → nat_cmp x z ≡ Less → AllByRecursion (λ y. nat_cmp z y ≡ Less) zs → AllByRecursion (λ y. nat_cmp x y ≡ Less) zs
all_above x z [] less all = tt
all_above x z (y ∷ ys) less all = (order.trans x z y less all.0, all_above x z ys less all.1)

insert_sorted : (xs : List ℕ) (x : ℕ) → IsStrictlySortedBy nat_cmp xs → IsStrictlySortedBy nat_cmp (insert_key nat_cmp xs x)
unfolding IsStrictlySortedBy
insert_sorted [] x sorted = (tt, tt)
insert_sorted (z ∷ zs) x sorted = by (nat_cmp x z) refl (insert_sorted zs x sorted.1) where
  by : (o : Ordering) → nat_cmp x z ≡ o → IsStrictlySortedBy nat_cmp (insert_key nat_cmp zs x)
      → IsStrictlySortedBy nat_cmp (match_ordering o (x ∷ z ∷ zs) (z ∷ zs) (z ∷ insert_key nat_cmp zs x))
  by Less is rest = ((is, all_above x z zs is sorted.0), sorted)
  by Equal is rest = sorted
  by Greater is rest =
      let more : nat_cmp z x ≡ Less = order.antisymm z x ∙ ap ordering_reverse is in
      (insert_all (λ y. nat_cmp z y ≡ Less) zs x sorted.0 more, rest)

in_order_sorted : (kept listed : List ℕ) → IsStrictlySortedBy nat_cmp kept → IsStrictlySortedBy nat_cmp (fold (insert_key nat_cmp) kept listed)
in_order_sorted kept [] sorted = sorted
in_order_sorted kept (x ∷ xs) sorted = in_order_sorted (insert_key nat_cmp kept x) xs (insert_sorted kept x sorted)

none_sorted : IsStrictlySortedBy nat_cmp []
unfolding IsStrictlySortedBy
none_sorted = tt

bool_eq : (a b : Bool) → (IsTrue a → IsTrue b) → (IsTrue b → IsTrue a) → a ≡ b
bool_eq true b to from = sym (to refl)
bool_eq false true to from = from refl
bool_eq false false to from = refl

-- two ascending lists of the same numbers are one
same_numbers : (xs ys : List ℕ) → IsStrictlySortedBy nat_cmp xs → IsStrictlySortedBy nat_cmp ys → ((number : ℕ) → Contains xs number ↔ Contains ys number) → xs ≡ ys
same_numbers xs ys a b same = btree_set_from_contains nat_cmp_total (set xs) (set ys) a b (λ number. bool_eq _ _ (to number) (from number)) exact_unsigned where
  set : List ℕ → BTreeSet ℕ
  set keys = record { keys = keys }

  in_set : (keys : List ℕ) (number : ℕ) → IsTrue (contains nat_cmp (set keys) number) ↔ Contains keys number
  in_set keys number = btree_set_contains_iff nat_cmp_total exact_unsigned (set keys) number

  to : (number : ℕ) → IsTrue (contains nat_cmp (set xs) number) → IsTrue (contains nat_cmp (set ys) number)
  to number h = (in_set ys number).1 ((same number).0 ((in_set xs number).0 h))

  from : (number : ℕ) → IsTrue (contains nat_cmp (set ys) number) → IsTrue (contains nat_cmp (set xs) number)
  from number h = (in_set xs number).1 ((same number).1 ((in_set ys number).0 h))

-- ---- what the items list

listed_between : (count : ℕ) (item : Listed) → listed_by count item ≡ numbers_between (bounds_of count item).first (bounds_of count item).last
listed_between count (One one) = let size : 1 ≡ (one + 1) - one = omega arith in ap (range_with_len one) size
listed_between count (Range first last) = refl

item_has : (count number : ℕ) (item : Listed) → Contains (listed_by count item) number ↔ (has number (bounds_of count item) ≡ true)
item_has count number item = (to, from) where
  b : Bounds
  b = bounds_of count item

  to : Contains (listed_by count item) number → has number b ≡ true
  to h =
      let both = (between_numbers b.first b.last number).0 (subst (λ (l : List ℕ). Contains l number) (listed_between count item) h) in
      has_from number b both.0 both.1

  from : has number b ≡ true → Contains (listed_by count item) number
  from h = subst (λ (l : List ℕ). Contains l number) (sym (listed_between count item)) ((between_numbers b.first b.last number).1 (has_parts number b h))

listed_has : (count number : ℕ) (items : List Listed) → Contains (flat_map (listed_by count) items) number → list_any (has number) (map (bounds_of count) items) ≡ true
listed_has count number [] h = absurd (omega (arith, h.1))
listed_has count number (item ∷ items) h =
    elim (Contains-append_cases (listed_by count item) (flat_map (listed_by count) items) number h) [
      | inl own ↦ or_left (has number (bounds_of count item)) (list_any (has number) (map (bounds_of count) items)) ((item_has count number item).0 own)
      | inr others ↦ or_right (has number (bounds_of count item)) (list_any (has number) (map (bounds_of count) items)) (listed_has count number items others)
    ]

has_listed : (count number : ℕ) (items : List Listed) → list_any (has number) (map (bounds_of count) items) ≡ true → Contains (flat_map (listed_by count) items) number
has_listed count number [] h = absurd cc
has_listed count number (item ∷ items) h = by (has number (bounds_of count item)) refl h (has_listed count number items) where
  others : Bool
  others = list_any (has number) (map (bounds_of count) items)

  by : (t : Bool) → has number (bounds_of count item) ≡ t → (t || others) ≡ true → (others ≡ true → Contains (flat_map (listed_by count) items) number)
      → Contains (listed_by count item ++ flat_map (listed_by count) items) number
  by true is h rec = Contains-append_left (listed_by count item) (flat_map (listed_by count) items) number ((item_has count number item).1 is)
  by false is h rec = Contains-append_right (listed_by count item) (flat_map (listed_by count) items) number (rec h)

-- ---- both

pub within_in_order : (count : ℕ) (items : List Listed) (all : List Bounds) → IsPermutation (map (bounds_of count) items) all
    → IsNonDecreasingBy (λ (x : Bounds). x.first) all → numbers_within 0 all ≡ in_order (flat_map (listed_by count) items)
within_in_order count items all moved up =
    same_numbers (numbers_within 0 all) (in_order listed) (within_sorted 0 all) (in_order_sorted [] listed none_sorted) (λ number. (to number, from number)) where
      listed : List ℕ
      listed = flat_map (listed_by count) items

      to : (number : ℕ) → Contains (numbers_within 0 all) number → Contains (in_order listed) number
      to number h = (in_order_numbers listed number).1 (has_listed count number items (list_any-IsPermutation (has number) (map (bounds_of count) items) all moved ∙ (within_has all 0 number h).1))

      from : (number : ℕ) → Contains (in_order listed) number → Contains (numbers_within 0 all) number
      from number h =
          is_within all 0 number up (omega arith)
          (sym (list_any-IsPermutation (has number) (map (bounds_of count) items) all moved) ∙ listed_has count number items ((in_order_numbers listed number).0 h))

pub within_ascending : {E : Type 0} (r : Result (Vec ℕ Global) E) (all : List Bounds) → IfOk r (λ v. v.items ≡ numbers_within 0 all) → IfOk r (λ v. IsStrictlySortedBy nat_cmp v.items)
within_ascending (Ok v) all h = subst (IsStrictlySortedBy nat_cmp) (sym h) (within_sorted 0 all)
within_ascending (Err e) all h = tt
