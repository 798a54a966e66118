-- The comments on a member are those of the comments that begin before its end which end after its begin.
use Rattle.std.proofs.Common.{◌≡◌, ◌∙◌, refl, sym, ap, ℕ, zero, suc, ◌<◌, ◌≤◌, ◌&&◌, arith, nat_lt, max, List, [], ◌∷◌, ◌++◌, length, take, drop, filter, replicate, slice_get, Bool, true, false, Option, Some, None, if◌then◌else◌}
use Rattle.std.proofs.lemmas.Bool.{ltb-true, ltb-false, lt-ltb, le-ltb}
use Rattle.std.proofs.lemmas.List.{length-take-le}
use Rattle.std.specs.Option.{option_map}
use Rattle.redl_spans.specs.declared.span.Span.{Span}
use Rattle.redl_commented.specs.On.{Remarks, all_remarked, begins_before, end_of, ends_after, is_of, joined, meets, no_remarks, number_on, on_member, ranked, ranked_after, ranked_in, remarked, start_of}
use Rattle.redl_commented.specs.declared.range.Ranged.{Ranged}
use Rattle.redl_commented.specs.Inside.Fronts.{BeginBy, BeginBefore}
use Rattle.redl_commented.specs.Orders.{Above}

-- ---- lists that fall: each ends no later than those before it

abbrev pub EndBy : ℕ → List Ranged → Type 0
EndBy n [] = Unit {0}
EndBy n (y ∷ ys) = (y.range.to ≤ n) × EndBy n ys

abbrev pub Falls : List Ranged → Type 0
Falls [] = Unit {0}
Falls (y ∷ ys) = EndBy y.range.to ys × Falls ys

end-later : (m n : ℕ) (ys : List Ranged) → m ≤ n → EndBy m ys → EndBy n ys
end-later m n [] le h = tt
end-later m n (y ∷ ys) le h = (omega (arith, le, h.0), end-later m n ys le h.1)

end-ranked : (n : ℕ) (x : Ranged) (ys : List Ranged) → x.range.to ≤ n → EndBy n ys → EndBy n (ranked_in x ys)
end-ranked n x [] le h = (le, tt)
end-ranked n x (y ∷ ys) le h = by (nat_lt y.range.to x.range.to) (end-ranked n x ys le h.1)
  where
    by : (b : Bool) → EndBy n (ranked_in x ys) → EndBy n (if b then x ∷ y ∷ ys else y ∷ ranked_in x ys)
    by true so = (le, h)
    by false so = (h.0, so)

falls-ranked : (x : Ranged) (ys : List Ranged) → Falls ys → Falls (ranked_in x ys)
falls-ranked x [] h = (tt, tt)
falls-ranked x (y ∷ ys) h = by (nat_lt y.range.to x.range.to) refl (falls-ranked x ys h.1)
  where
    by : (b : Bool) → nat_lt y.range.to x.range.to ≡ b → Falls (ranked_in x ys) → Falls (if b then x ∷ y ∷ ys else y ∷ ranked_in x ys)
    by true t so =
        let lt : y.range.to < x.range.to = ltb-true y.range.to x.range.to t in
        let le : y.range.to ≤ x.range.to = omega (arith, lt) in
        ((le, end-later y.range.to x.range.to ys le h.0), h)
    by false t so = (end-ranked y.range.to x ys (ltb-false y.range.to x.range.to t) h.0, so)

falls-after : (base xs : List Ranged) → Falls base → Falls (ranked_after base xs)
falls-after base [] h = h
falls-after base (x ∷ xs) h = falls-after (ranked_in x base) xs (falls-ranked x base h)

-- ---- the first ones of a list that one more is ranked in

take-front : (n : ℕ) (y : Ranged) (ys : List Ranged) → take n (y ∷ take n ys) ≡ take n (y ∷ ys)
take-front zero y ys = refl
take-front (suc n) y ys = ap (λ (zs : List Ranged). y ∷ zs) (twice n ys)
  where
    twice : (m : ℕ) (zs : List Ranged) → take m (take (suc m) zs) ≡ take m zs
    twice zero zs = refl
    twice (suc m) [] = refl
    twice (suc m) (z ∷ zs) = ap (λ (ws : List Ranged). z ∷ ws) (twice m zs)

pub take-ranked : (n : ℕ) (x : Ranged) (ys : List Ranged) → take n (ranked_in x (take n ys)) ≡ take n (ranked_in x ys)
take-ranked zero x ys = refl
take-ranked (suc n) x [] = refl
take-ranked (suc n) x (y ∷ ys) = by (nat_lt y.range.to x.range.to) (take-ranked n x ys)
  where
    by : (b : Bool) → take n (ranked_in x (take n ys)) ≡ take n (ranked_in x ys) → take (suc n) (if b then x ∷ y ∷ take n ys else y ∷ ranked_in x (take n ys)) ≡ take (suc n) (if b then x ∷ y ∷ ys else y ∷ ranked_in x ys)
    by true so = ap (λ (zs : List Ranged). x ∷ zs) (take-front n y ys)
    by false so = ap (λ (zs : List Ranged). y ∷ zs) so

pub ranked-more : (base xs : List Ranged) (x : Ranged) → ranked_after base (xs ++ x ∷ []) ≡ ranked_in x (ranked_after base xs)
ranked-more base [] x = refl
ranked-more base (y ∷ ys) x = ranked-more (ranked_in y base) ys x

-- ---- those that end after a place come first

none-after : (f n : ℕ) (ys : List Ranged) → n ≤ f → EndBy n ys → filter (ends_after f) ys ≡ []
none-after f n [] le h = refl
none-after f n (y ∷ ys) le h =
    ap (λ b. if b then y ∷ filter (ends_after f) ys else filter (ends_after f) ys) (le-ltb f y.range.to (omega (arith, le, h.0)))
    ∙ none-after f n ys le h.1

take-nothing : (n : ℕ) → (let none : List Ranged = [] in take (suc n) none ≡ take n none)
take-nothing zero = refl
take-nothing (suc n) = refl

pub filter-take : (f n : ℕ) (ys : List Ranged) → Falls ys → filter (ends_after f) (take n ys) ≡ take n (filter (ends_after f) ys)
filter-take f zero ys h = refl
filter-take f (suc n) [] h = refl
filter-take f (suc n) (y ∷ ys) h = by (ends_after f y) refl (filter-take f n ys h.1)
  where
    by : (b : Bool) → ends_after f y ≡ b → filter (ends_after f) (take n ys) ≡ take n (filter (ends_after f) ys)
        → (if b then y ∷ filter (ends_after f) (take n ys) else filter (ends_after f) (take n ys)) ≡ take (suc n) (if b then y ∷ filter (ends_after f) ys else filter (ends_after f) ys)
    by true t so = ap (λ (zs : List Ranged). y ∷ zs) so
    by false t so =
        let le : y.range.to ≤ f = ltb-false f y.range.to t in
        let none = none-after f y.range.to ys le h.0 in
        so ∙ ap (take n) none ∙ sym (take-nothing n) ∙ ap (take (suc n)) (sym none)

-- ---- the ranks of those that end after a place

ranked-front : (n : ℕ) (x : Ranged) (ys : List Ranged) → n < x.range.to → EndBy n ys → ranked_in x ys ≡ x ∷ ys
ranked-front n x [] lt h = refl
ranked-front n x (y ∷ ys) lt h =
    ap (λ b. if b then x ∷ y ∷ ys else y ∷ ranked_in x ys) (lt-ltb y.range.to x.range.to (omega (arith, lt, h.0)))

end-filter : (n f : ℕ) (ys : List Ranged) → EndBy n ys → EndBy n (filter (ends_after f) ys)
end-filter n f [] h = tt
end-filter n f (y ∷ ys) h = by (ends_after f y) (end-filter n f ys h.1)
  where
    by : (b : Bool) → EndBy n (filter (ends_after f) ys) → EndBy n (if b then y ∷ filter (ends_after f) ys else filter (ends_after f) ys)
    by true so = (h.0, so)
    by false so = so

-- of two, where the later one ends no earlier: what is behind them is `rest`
two-ranked : (f : ℕ) (x y : Ranged) (rest : List Ranged) (p q : Bool) → ends_after f x ≡ p → ends_after f y ≡ q → nat_lt y.range.to x.range.to ≡ false
    → (if q then y ∷ (if p then ranked_in x rest else rest) else (if p then ranked_in x rest else rest)) ≡ (if p then ranked_in x (if q then y ∷ rest else rest) else (if q then y ∷ rest else rest))
two-ranked f x y rest true true p q t = sym (ap (λ b. if b then x ∷ y ∷ rest else y ∷ ranked_in x rest) t)
two-ranked f x y rest false true p q t = refl
two-ranked f x y rest true false p q t =
    let more : f < x.range.to = ltb-true f x.range.to p in
    let less : y.range.to ≤ f = ltb-false f y.range.to q in
    let le : x.range.to ≤ y.range.to = ltb-false y.range.to x.range.to t in
    absurd (omega (arith, more, less, le))
two-ranked f x y rest false false p q t = refl

filter-ranked : (f : ℕ) (x : Ranged) (ys : List Ranged) → Falls ys
    → filter (ends_after f) (ranked_in x ys) ≡ (if ends_after f x then ranked_in x (filter (ends_after f) ys) else filter (ends_after f) ys)
filter-ranked f x [] h = refl
filter-ranked f x (y ∷ ys) h = by (nat_lt y.range.to x.range.to) refl (filter-ranked f x ys h.1)
  where
    by : (b : Bool) → nat_lt y.range.to x.range.to ≡ b
        → filter (ends_after f) (ranked_in x ys) ≡ (if ends_after f x then ranked_in x (filter (ends_after f) ys) else filter (ends_after f) ys)
        → filter (ends_after f) (if b then x ∷ y ∷ ys else y ∷ ranked_in x ys)
        ≡ (if ends_after f x then ranked_in x (if ends_after f y then y ∷ filter (ends_after f) ys else filter (ends_after f) ys) else (if ends_after f y then y ∷ filter (ends_after f) ys else filter (ends_after f) ys))
    by true t so =
        let lt : y.range.to < x.range.to = ltb-true y.range.to x.range.to t in
        let kept = filter (ends_after f) (y ∷ ys) in
        ap (λ (zs : List Ranged). if ends_after f x then zs else kept) (sym (ranked-front y.range.to x kept lt (end-filter y.range.to f (y ∷ ys) (omega arith, h.0))))
    by false t so =
        ap (λ (zs : List Ranged). if ends_after f y then y ∷ zs else zs) so
        ∙ two-ranked f x y (filter (ends_after f) ys) (ends_after f x) (ends_after f y) refl refl t

ranked-filter : (f : ℕ) (base xs : List Ranged) → Falls base → ranked_after (filter (ends_after f) base) (filter (ends_after f) xs) ≡ filter (ends_after f) (ranked_after base xs)
ranked-filter f base [] h = refl
ranked-filter f base (x ∷ xs) h =
    let next = ranked-filter f (ranked_in x base) xs (falls-ranked x base h) in
    by (ends_after f x) refl (sym (ap (λ (zs : List Ranged). ranked_after zs (filter (ends_after f) xs)) (filter-ranked f x base h)) ∙ next)
  where
    by : (b : Bool) → ends_after f x ≡ b
        → ranked_after (if ends_after f x then ranked_in x (filter (ends_after f) base) else filter (ends_after f) base) (filter (ends_after f) xs) ≡ filter (ends_after f) (ranked_after (ranked_in x base) xs)
        → ranked_after (filter (ends_after f) base) (if ends_after f x then x ∷ filter (ends_after f) xs else filter (ends_after f) xs) ≡ filter (ends_after f) (ranked_after (ranked_in x base) xs)
    by true t so =
        ap (λ b. ranked_after (filter (ends_after f) base) (if b then x ∷ filter (ends_after f) xs else filter (ends_after f) xs)) t
        ∙ sym (ap (λ b. ranked_after (if b then ranked_in x (filter (ends_after f) base) else filter (ends_after f) base) (filter (ends_after f) xs)) t)
        ∙ so
    by false t so =
        ap (λ b. ranked_after (filter (ends_after f) base) (if b then x ∷ filter (ends_after f) xs else filter (ends_after f) xs)) t
        ∙ sym (ap (λ b. ranked_after (if b then ranked_in x (filter (ends_after f) base) else filter (ends_after f) base) (filter (ends_after f) xs)) t)
        ∙ so

-- ---- those that begin before a place, in the order of their begin

filter-both : (span : Span) (xs : List Ranged) → filter (meets span) xs ≡ filter (ends_after span.from) (filter (begins_before span.to) xs)
filter-both span [] = refl
filter-both span (x ∷ xs) = by (begins_before span.to x) (filter-both span xs)
  where
    by : (b : Bool) → filter (meets span) xs ≡ filter (ends_after span.from) (filter (begins_before span.to) xs) → (if b && ends_after span.from x then x ∷ filter (meets span) xs else filter (meets span) xs)
        ≡ filter (ends_after span.from) (if b then x ∷ filter (begins_before span.to) xs else filter (begins_before span.to) xs)
    by true so = ap (λ (zs : List Ranged). if ends_after span.from x then x ∷ zs else zs) so
    by false so = so

none-before : (t : ℕ) (xs : List Ranged) → Above start_of t xs → filter (begins_before t) xs ≡ []
none-before t [] h = refl
none-before t (x ∷ xs) h =
    ap (λ b. if b then x ∷ filter (begins_before t) xs else filter (begins_before t) xs) (le-ltb x.range.from t h.0) ∙ none-before t xs h.1

pub begin-later : (s t : ℕ) (xs : List Ranged) → s ≤ t → BeginBy s xs → BeginBy t xs
begin-later s t [] le h = tt
begin-later s t (x ∷ xs) le h = (omega (arith, le, h.0), begin-later s t xs le h.1)

pub begin-more : (t : ℕ) (xs : List Ranged) (x : Ranged) → BeginBy t xs → x.range.from < t → BeginBy t (xs ++ x ∷ [])
begin-more t [] x h lt = (lt, tt)
begin-more t (y ∷ ys) x h lt = (h.0, begin-more t ys x h.1 lt)

before-front : (t n : ℕ) (xs : List Ranged) → BeginBy t (take n xs) → Above start_of t (drop n xs) → filter (begins_before t) xs ≡ take n xs
before-front t zero xs h above = none-before t xs above
before-front t (suc n) [] h above = refl
before-front t (suc n) (x ∷ xs) h above =
    ap (λ b. if b then x ∷ filter (begins_before t) xs else filter (begins_before t) xs) (lt-ltb x.range.from t h.0)
    ∙ ap (λ (zs : List Ranged). x ∷ zs) (before-front t n xs h.1 above)

-- ---- the first ones on a member: of the first ones of those that begin before its end, those that end after its begin

pub first-on : (span : Span) (k n : ℕ) (xs : List Ranged) → BeginBy span.to (take n xs) → Above start_of span.to (drop n xs)
    → filter (ends_after span.from) (take k (ranked (take n xs))) ≡ take k (ranked (filter (meets span) xs))
first-on span k n xs before above =
    filter-take span.from k (ranked (take n xs)) (falls-after [] (take n xs) tt)
    ∙ ap (take k) (sym (ranked-filter span.from [] (take n xs) tt))
    ∙ ap (λ (zs : List Ranged). take k (ranked (filter (ends_after span.from) zs))) (sym (before-front span.to n xs before above))
    ∙ ap (λ (zs : List Ranged). take k (ranked zs)) (sym (filter-both span xs))

-- ---- members one after the other

pub begins-nothing : (spans : List Span) → BeginBefore spans []
begins-nothing [] = tt
begins-nothing (span ∷ more) = tt

-- what begins before the end of a member begins before that of the next one
pub begins-next : (n : ℕ) (spans : List Span) (front : List Ranged) → Above end_of n spans → BeginBy n front → BeginBefore spans front
begins-next n [] front h begin = tt
begins-next n (span ∷ more) front h begin = begin-later n span.to front h.0 begin

pub remarked-step : (all : List Ranged) (v : ℕ) (span : Span) (rest : List Span) (found : List Ranged) (number : ℕ) → found ≡ take 20 (on_member all span) → number ≡ number_on all span → (old : Option Remarks)
    → option_map (λ (remarks : Remarks). all_remarked all remarks (filter (is_of v) rest)) (option_map (λ (remarks : Remarks). if is_of v span then record { kept = joined remarks.kept found; most = max remarks.most number } else remarks) old)
    ≡ option_map (λ (remarks : Remarks). all_remarked all remarks (filter (is_of v) (span ∷ rest))) old
remarked-step all v span rest found number is many None = refl
remarked-step all v span rest found number is many (Some remarks) = by (is_of v span)
  where
    by : (b : Bool) → Some (all_remarked all (if b then record { kept = joined remarks.kept found; most = max remarks.most number } else remarks) (filter (is_of v) rest))
        ≡ Some (all_remarked all remarks (if b then span ∷ filter (is_of v) rest else filter (is_of v) rest))
    by true =
        ap (λ (zs : List Ranged). Some (all_remarked all (record { kept = joined remarks.kept zs; most = max remarks.most number }) (filter (is_of v) rest))) is
        ∙ ap (λ (n : ℕ). Some (all_remarked all (record { kept = joined remarks.kept (take 20 (on_member all span)); most = max remarks.most n }) (filter (is_of v) rest))) many
    by false = refl

pub remarked-none : (old : Option Remarks) (all : List Ranged) → option_map (λ (remarks : Remarks). all_remarked all remarks []) old ≡ old
remarked-none None all = refl
remarked-none (Some remarks) all = refl

pub nothing-kept : (n k : ℕ) → k < n → slice_get (replicate n no_remarks) k ≡ Some no_remarks
nothing-kept zero k h = absurd (omega (arith, h))
nothing-kept (suc n) zero h = refl
nothing-kept (suc n) (suc k) h = nothing-kept n k (omega (arith, h))

abbrev with_most : List ℕ → ℕ → Remarks
with_most kept most = record { kept = kept; most = most }

-- where there are no comments, none is on any member
pub nothing-remarked : (remarks : Remarks) (spans : List Span) → all_remarked [] remarks spans ≡ remarks
nothing-remarked remarks [] = refl
nothing-remarked remarks (span ∷ more) =
    nothing-remarked (remarked [] remarks span) more
    ∙ ap (with_most remarks.kept) (omega arith)

-- ---- how many there are

pub begun-counted : (t n : ℕ) (xs : List Ranged) → n ≤ length xs → BeginBy t (take n xs) → Above start_of t (drop n xs) → n ≡ length (filter (begins_before t) xs)
begun-counted t n xs few before above = sym (ap length (before-front t n xs before above) ∙ length-take-le n xs few)
