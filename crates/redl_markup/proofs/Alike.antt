-- A set made of a list of names has as many keys as the list exactly if no two are alike.
use Rattle.std.proofs.Common.{◌≡◌, ℕ, Bool, true, false, List, [], ◌∷◌, Ordering, Less, Equal, Greater, refl, sym, ◌∙◌, eqb, length, map, arith}
use Rattle.std.specs.Prelude.{not, ◌&&◌}
use Rattle.std.specs.List.{list_all, AllByRecursion, IsDistinct}
use Rattle.std.specs.Cmp.{IsTotalOrder, IsEquivalence, eq_by_cmp_equiv}
use Rattle.std.specs.Cmp.Lexicographic.{slice_cmp}
use Rattle.std.specs.Ordering.{eq_by_cmp, is_eq, ordering_then, nat_cmp}
use Rattle.std.specs.BTreeSet.{BTreeSet, btree_set_len, IsFromIterResult}
use Rattle.std.proofs.lemmas.Bool.{eqb-true, and_parts, and_from, not-true, eq-eqb}
use Rattle.std.proofs.lemmas.Bool.Decides.{nat_tests, same_from_decides}
use Rattle.std.proofs.lemmas.Map.Made.{IsDistinct-from_count, distinct_count-from_IsDistinct}
use Rattle.std.proofs.lemmas.Map.Views.{btree_set_len-from_list}
use lib.Pointwise.{pointwise}
use Rattle.redl_markup.specs.contracts.name.NameOrd.TheImpl as order
use Rattle.redl_markup.specs.contracts.name.NameOrd.TheImpl.Laws as laws
use Rattle.redl_markup.specs.declared.name.Name as code
use Rattle.redl_grammar.specs.Names.{Name, name_eq, are_distinct}
use Rattle.redl_markup.specs.Views.{name_view}

abbrev pub compare : code.Name → code.Name → Ordering
compare = (order.cmp-value).it

total : IsTotalOrder compare
total = laws.total-law

then_eq : (o p : Ordering) → is_eq (ordering_then o p) ≡ (is_eq o && is_eq p)
then_eq Less p = refl
then_eq Equal p = refl
then_eq Greater p = refl

nat_cmp-eq : (x y : ℕ) → is_eq (nat_cmp x y) ≡ eqb x y
nat_cmp-eq x y = grind (arith, nat_tests)

bytes_alike : (xs ys : List ℕ) → is_eq (slice_cmp nat_cmp xs ys) ≡ pointwise eqb xs ys
bytes_alike [] [] = refl
bytes_alike [] (y ∷ ys) = refl
bytes_alike (x ∷ xs) [] = refl
bytes_alike (x ∷ xs) (y ∷ ys) = then_eq (nat_cmp x y) (slice_cmp nat_cmp xs ys) ∙ rw (nat_cmp-eq x y, bytes_alike xs ys) refl

alike : (x y : code.Name) → eq_by_cmp compare x y ≡ name_eq (name_view x) (name_view y)
alike x y =
    then_eq (slice_cmp nat_cmp x.prefix.now y.prefix.now) (slice_cmp nat_cmp x.local.now y.local.now) ∙ rw (bytes_alike x.prefix.now y.prefix.now, bytes_alike x.local.now y.local.now) refl

-- the first is unlike the others
unlike_test : (x : code.Name) (ys : List code.Name) → AllByRecursion (λ y. eq_by_cmp compare x y ≡ false) ys → list_all (λ m. not (name_eq (name_view x) m)) (map name_view ys) ≡ true
unlike_test x [] h = refl
unlike_test x (y ∷ ys) h = and_from _ _ (rw (sym (alike x y) ∙ h.0) refl) (unlike_test x ys h.1)

unlike_from_test : (x : code.Name) (ys : List code.Name) → list_all (λ m. not (name_eq (name_view x) m)) (map name_view ys) ≡ true → AllByRecursion (λ y. eq_by_cmp compare x y ≡ false) ys
unlike_from_test x [] h = tt
unlike_from_test x (y ∷ ys) h =
    let both = and_parts (not (name_eq (name_view x) (name_view y))) (list_all (λ m. not (name_eq (name_view x) m)) (map name_view ys)) h in
    (alike x y ∙ not-true (name_eq (name_view x) (name_view y)) both.0, unlike_from_test x ys both.1)

pub unlike_step : (n : Name) (x : code.Name) (rest left : List code.Name) (t : Bool) → left ≡ x ∷ rest → name_eq n (name_view x) ≡ t → list_all (λ m. not (name_eq n m)) (map name_view left) ≡ (not t && list_all (λ m. not (name_eq n m)) (map name_view rest))
unlike_step n x rest left t e h = rw (e, h) refl

pub distinct_step : (x : code.Name) (rest left : List code.Name) (t : Bool) → left ≡ x ∷ rest → list_all (λ m. not (name_eq (name_view x) m)) (map name_view rest) ≡ t → are_distinct (map name_view left) ≡ (t && are_distinct (map name_view rest))
unfolding are_distinct
distinct_step x rest left t e h = rw (e, h) refl

distinct_test : (xs : List code.Name) → IsDistinct (eq_by_cmp compare) xs → are_distinct (map name_view xs) ≡ true
unfolding are_distinct IsDistinct
distinct_test [] h = refl
distinct_test (x ∷ xs) h = and_from _ _ (unlike_test x xs h.0) (distinct_test xs h.1)

distinct_from_test : (xs : List code.Name) → are_distinct (map name_view xs) ≡ true → IsDistinct (eq_by_cmp compare) xs
unfolding are_distinct IsDistinct
distinct_from_test [] h = tt
distinct_from_test (x ∷ xs) h =
    let both = and_parts (list_all (λ m. not (name_eq (name_view x) m)) (map name_view xs)) (are_distinct (map name_view xs)) h in
    (unlike_from_test x xs both.0, distinct_from_test xs both.1)

equal_is : (m n : ℕ) → m ≡ n → eqb m n ≡ true
equal_is m n e = rw e (eq-eqb n n refl)

pub count_test : (xs : List code.Name) (set : BTreeSet code.Name) → IsFromIterResult compare xs set → eqb (btree_set_len set) (length xs) ≡ are_distinct (map name_view xs)
count_test xs set made =
    let equiv : IsEquivalence (eq_by_cmp compare) = eq_by_cmp_equiv total in
    let len = btree_set_len-from_list total xs set made in
    same_from_decides {P = IsDistinct (eq_by_cmp compare) xs} _ _
    (λ e. IsDistinct-from_count equiv xs (sym len ∙ eqb-true _ _ e), λ d. equal_is _ _ (len ∙ distinct_count-from_IsDistinct equiv xs d))
    (distinct_from_test xs, distinct_test xs)
