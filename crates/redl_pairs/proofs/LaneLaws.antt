-- The lanes of two comparisons of a block and of two of the bytes after its own.
use Rattle.std.proofs.Common.{◌≡◌, ◌∙◌, refl, sym, ap, ap₂, ℕ, ◌+◌, ◌*◌, ◌%◌, ◌^◌, ◌≤◌, eqb, List, [], ◌∷◌, map, length, replicate, Bool, true, false, cond, ◌&&◌, ◌||◌, arith}
use Rattle.std.specs.Prelude.{not, bit_and, bit_or}
use Rattle.std.proofs.lemmas.Bool.Decides.{nat_tests}
use Rattle.std.proofs.lemmas.List.{length-map}
use Rattle.std.proofs.lemmas.Simd.{mask_l-mod, length-zip2, zip2_splat}
use Rattle.std.specs.Simd.Lanes.{mask_l, zip2, top}
use Rattle.redl_pairs.specs.Pairs.{begins_either, lacks_both}

-- a lane of a comparison
abbrev lane : Bool → ℕ
lane t = cond t 255 0

-- ---- two lists, place by place

zip_maps : (op : ℕ → ℕ → ℕ) (f g : ℕ → ℕ) (xs ys : List ℕ) → zip2 op (map f xs) (map g ys) ≡ zip2 (λ x y. op (f x) (g y)) xs ys
zip_maps op f g [] ys = refl
zip_maps op f g (x ∷ xs) [] = refl
zip_maps op f g (x ∷ xs) (y ∷ ys) = ap (λ (zs : List ℕ). op (f x) (g y) ∷ zs) (zip_maps op f g xs ys)

zip_zips : (op f g : ℕ → ℕ → ℕ) (xs ys : List ℕ) → zip2 op (zip2 f xs ys) (zip2 g xs ys) ≡ zip2 (λ x y. op (f x y) (g x y)) xs ys
zip_zips op f g [] ys = refl
zip_zips op f g (x ∷ xs) [] = refl
zip_zips op f g (x ∷ xs) (y ∷ ys) = ap (λ (zs : List ℕ). op (f x y) (g x y) ∷ zs) (zip_zips op f g xs ys)

zip_same : (f g : ℕ → ℕ → ℕ) → ((x y : ℕ) → f x y ≡ g x y) → (xs ys : List ℕ) → zip2 f xs ys ≡ zip2 g xs ys
zip_same f g e [] ys = refl
zip_same f g e (x ∷ xs) [] = refl
zip_same f g e (x ∷ xs) (y ∷ ys) = ap₂ (λ (z : ℕ) (zs : List ℕ). z ∷ zs) (e x y) (zip_same f g e xs ys)

-- ---- four comparisons

both : (p q : Bool) → bit_and (lane p) (lane q) ≡ lane (p && q)
both true true = refl
both true false = refl
both false true = refl
both false false = refl

either : (p q : Bool) → bit_or (lane p) (lane q) ≡ lane (p || q)
either true true = refl
either true false = refl
either false true = refl
either false false = refl

-- whether a byte is this one, lane by lane
abbrev compared : ℕ → ℕ → List ℕ → List ℕ
compared n y block = zip2 (λ a b. lane (eqb a b)) block (replicate n y)

-- the lanes of a word
word_lanes : (n a b : ℕ) (xs ys : List ℕ) → length xs ≡ n → length ys ≡ n
    → zip2 bit_and (compared n a xs) (compared n b ys) ≡ zip2 (λ x y. lane (eqb x a && eqb y b)) xs ys
word_lanes n a b xs ys long also =
    ap₂ (λ (u : List ℕ) (v : List ℕ). zip2 bit_and u v) (zip2_splat (λ x y. lane (eqb x y)) xs n a long) (zip2_splat (λ x y. lane (eqb x y)) ys n b also)
    ∙ zip_maps bit_and (λ x. lane (eqb x a)) (λ y. lane (eqb y b)) xs ys
    ∙ zip_same (λ x y. bit_and (lane (eqb x a)) (lane (eqb y b))) (λ x y. lane (eqb x a && eqb y b)) (λ x y. both (eqb x a) (eqb y b)) xs ys

-- the lanes of either word
abbrev pair_lanes : ℕ → ℕ → ℕ → ℕ → List ℕ → List ℕ → List ℕ
pair_lanes a b c d xs ys = zip2 (λ x y. lane (begins_either a b c d x y)) xs ys

either_lanes : (n a b c d : ℕ) (xs ys : List ℕ) → length xs ≡ n → length ys ≡ n
    → zip2 bit_or (zip2 bit_and (compared n a xs) (compared n b ys)) (zip2 bit_and (compared n c xs) (compared n d ys)) ≡ pair_lanes a b c d xs ys
either_lanes n a b c d xs ys long also =
    ap₂ (λ (u : List ℕ) (v : List ℕ). zip2 bit_or u v) (word_lanes n a b xs ys long also) (word_lanes n c d xs ys long also)
    ∙ zip_zips bit_or (λ x y. lane (eqb x a && eqb y b)) (λ x y. lane (eqb x c && eqb y d)) xs ys
    ∙ zip_same (λ x y. bit_or (lane (eqb x a && eqb y b)) (lane (eqb x c && eqb y d))) (λ x y. lane (begins_either a b c d x y))
    (λ x y. either (eqb x a && eqb y b) (eqb x c && eqb y d)) xs ys

-- ---- no bit is set where no pair passes

top_of : (b : Bool) → top 7 (lane b) ≡ b
top_of true = refl
top_of false = refl

set_step : (t rest : Bool) (m : ℕ) → eqb m 0 ≡ rest → eqb (cond t 1 0 + 2 * m) 0 ≡ (not t && rest)
set_step true rest m e = one
  where
    one : eqb (1 + 2 * m) 0 ≡ false
    one = grind (arith, nat_tests)
set_step false rest m e = doubled ∙ e
  where
    doubled : eqb (0 + 2 * m) 0 ≡ eqb m 0
    doubled = grind (arith, nat_tests)

none_set : (test : ℕ → ℕ → Bool) (xs ys : List ℕ) → eqb (mask_l (map (top 7) (zip2 (λ x y. lane (test x y)) xs ys))) 0 ≡ lacks_both test xs ys
none_set test [] ys = refl
none_set test (x ∷ xs) [] = refl
none_set test (x ∷ xs) (y ∷ ys) =
    let rest = mask_l (map (top 7) (zip2 (λ x y. lane (test x y)) xs ys)) in
    ap (λ (t : Bool). eqb (cond t 1 0 + 2 * rest) 0) (top_of (test x y)) ∙ set_step (test x y) (lacks_both test xs ys) rest (none_set test xs ys)

-- of at most 64 lanes
pub mask_of : (n a b c d : ℕ) (xs ys : List ℕ) → n ≤ 64 → length xs ≡ n → length ys ≡ n
    → eqb (mask_l (map (top 7) (zip2 bit_or (zip2 bit_and (compared n a xs) (compared n b ys)) (zip2 bit_and (compared n c xs) (compared n d ys)))) % 2 ^ 64) 0
    ≡ lacks_both (begins_either a b c d) xs ys
mask_of n a b c d xs ys few long also =
    let lanes = pair_lanes a b c d xs ys in
    let size : length lanes ≡ length xs = length-zip2 (λ x y. lane (begins_either a b c d x y)) xs ys (long ∙ sym also) in
    let short : length (map (top 7) lanes) ≤ 64 = omega (arith, length-map lanes (top 7), size, long, few) in
    ap (λ (ls : List ℕ). eqb (mask_l (map (top 7) ls) % 2 ^ 64) 0) (either_lanes n a b c d xs ys long also)
    ∙ ap (λ m. eqb m 0) (mask_l-mod (map (top 7) lanes) 64 short)
    ∙ none_set (begins_either a b c d) xs ys
