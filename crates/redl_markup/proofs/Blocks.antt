-- A block of bytes tested lane by lane, and a text tested block by block.
use Rattle.std.proofs.Common.{◌≡◌, ℕ, zero, suc, ◌+◌, ◌*◌, ◌%◌, ◌^◌, ◌≤◌, ltb, eqb, Bool, true, false, not, ◌&&◌, ◌||◌, cond, List, [], ◌∷◌, map, length, take, drop, replicate, refl, sym, ap, ap₂, ◌∙◌, arith}
use Rattle.std.proofs.lemmas.Bool.Decides.{nat_tests}
use Rattle.std.proofs.lemmas.List.{drop-drop, take-append-drop}
use Rattle.std.proofs.Math.Bool.{and_assoc}
use Rattle.std.proofs.Math.Nat.{suc-mul, add_comm}
use Rattle.std.specs.List.{list_all}
use Rattle.std.specs.Simd.{first_chunks}
use Rattle.std.specs.Simd.Lanes.{mask_l, zip2, top}
use Rattle.std.proofs.lemmas.List.Folds.{list_all-append}
use Rattle.std.proofs.lemmas.List.{length-map}
use Rattle.std.proofs.lemmas.Simd.{zip2_splat, zip2_of_maps, mask_l-mod}
use lib.Bits.{bit_and, bit_or}
use Rattle.redl_grammar.specs.Characters.{is_plain_byte}

-- ---- the lanes

-- a lane of a comparison, and of what is made of two comparisons
abbrev pub lane : Bool → ℕ
lane t = cond t 255 0

both : (a b : Bool) → bit_and (lane a) (lane b) ≡ lane (a && b)
both true true = refl
both true false = refl
both false true = refl
both false false = refl

either_one : (a b : Bool) → bit_or (lane a) (lane b) ≡ lane (a || b)
either_one true true = refl
either_one true false = refl
either_one false true = refl
either_one false false = refl

top_of : (a : Bool) → top 7 (lane a) ≡ a
top_of true = refl
top_of false = refl

-- lanes that say for each byte whether it passes the test
abbrev pub Lanes : (ℕ → Bool) → List ℕ → List ℕ → Type 0
Lanes test block lanes = lanes ≡ map (λ b. lane (test b)) block

map_same : (f g : ℕ → ℕ) (xs : List ℕ) → ((x : ℕ) → f x ≡ g x) → map f xs ≡ map g xs
map_same f g [] e = refl
map_same f g (x ∷ xs) e = ap₂ (λ y ys. y ∷ ys) (e x) (map_same f g xs e)

pub lanes_compared : (t : ℕ → ℕ → Bool) (n y : ℕ) (block : List ℕ) → length block ≡ n → Lanes (λ b. t b y) block (zip2 (λ a b. lane (t a b)) block (replicate n y))
lanes_compared t n y block long = zip2_splat (λ a b. lane (t a b)) block n y long

splat_ahead : (h : ℕ → ℕ → ℕ) (y : ℕ) (xs : List ℕ) → zip2 h (replicate (length xs) y) xs ≡ map (h y) xs
splat_ahead h y [] = refl
splat_ahead h y (x ∷ xs) = ap (λ (r : List ℕ). h y x ∷ r) (splat_ahead h y xs)

-- the same with the sides changed
pub lanes_from : (t : ℕ → ℕ → Bool) (n y : ℕ) (block : List ℕ) → length block ≡ n → Lanes (λ b. t y b) block (zip2 (λ a b. lane (t a b)) (replicate n y) block)
lanes_from t n y block long = ap (λ (k : ℕ). zip2 (λ a b. lane (t a b)) (replicate k y) block) (sym long) ∙ splat_ahead (λ a b. lane (t a b)) y block

pub lanes_both : (p q : ℕ → Bool) (block a b : List ℕ) → Lanes p block a → Lanes q block b → Lanes (λ x. p x && q x) block (zip2 bit_and a b)
lanes_both p q block a b e f =
    zip2_of_maps bit_and (λ x. lane (p x)) (λ x. lane (q x)) block e f ∙ map_same _ _ block (λ x. both (p x) (q x))

pub lanes_either : (p q : ℕ → Bool) (block a b : List ℕ) → Lanes p block a → Lanes q block b → Lanes (λ x. p x || q x) block (zip2 bit_or a b)
lanes_either p q block a b e f =
    zip2_of_maps bit_or (λ x. lane (p x)) (λ x. lane (q x)) block e f ∙ map_same _ _ block (λ x. either_one (p x) (q x))

mask_step : (t rest : Bool) (m : ℕ) → eqb m 0 ≡ rest → eqb (cond t 1 0 + 2 * m) 0 ≡ (not t && rest)
mask_step true rest m e = one where
  one : eqb (1 + 2 * m) 0 ≡ false
  one = grind (arith, nat_tests)
mask_step false rest m e = doubled ∙ e where
  doubled : eqb (0 + 2 * m) 0 ≡ eqb m 0
  doubled = grind (arith, nat_tests)

-- no bit is set if no byte passes
none_passes : (p : ℕ → Bool) (block : List ℕ) → eqb (mask_l (map (top 7) (map (λ b. lane (p b)) block))) 0 ≡ list_all (λ b. not (p b)) block
none_passes p [] = refl
none_passes p (b ∷ more) =
    ap (λ t. eqb (cond t 1 0 + 2 * mask_l (map (top 7) (map (λ b. lane (p b)) more))) 0) (top_of (p b)) ∙ mask_step (p b) _ _ (none_passes p more)

pub none_set : (p : ℕ → Bool) (block lanes : List ℕ) → length block ≡ 64 → Lanes p block lanes → eqb (mask_l (map (top 7) lanes) % 2 ^ 64) 0 ≡ list_all (λ b. not (p b)) block
none_set p block lanes long e =
    let tops = map (top 7) (map (λ b. lane (p b)) block) in
    let short : length tops ≤ 64 = omega (arith, length-map (map (λ b. lane (p b)) block) (top 7), length-map block (λ b. lane (p b))) in
    ap (λ ls. eqb (mask_l (map (top 7) ls) % 2 ^ 64) 0) e ∙ ap (λ m. eqb m 0) (mask_l-mod tops 64 short) ∙ none_passes p block

-- ---- the bytes that are tested

abbrev pub is_rare : ℕ → Bool
is_rare b = (((ltb b 32 && not (eqb b 9)) && not (eqb b 10)) && not (eqb b 13)) || eqb b 239

pub rare_is_not_plain : (b : ℕ) → not (is_rare b) ≡ is_plain_byte b
unfolding is_plain_byte
rare_is_not_plain b = grind (arith, nat_tests)

all_same : (p q : ℕ → Bool) (bs : List ℕ) → ((b : ℕ) → p b ≡ q b) → list_all p bs ≡ list_all q bs
all_same p q [] e = refl
all_same p q (b ∷ bs) e = ap₂ (λ x y. x && y) (e b) (all_same p q bs e)

pub plain_lanes : (block lanes : List ℕ) → length block ≡ 64 → Lanes is_rare block lanes → eqb (mask_l (map (top 7) lanes) % 2 ^ 64) 0 ≡ list_all is_plain_byte block
plain_lanes block lanes long e = none_set is_rare block lanes long e ∙ all_same _ _ block rare_is_not_plain

-- ---- blocks of a text

-- the blocks and the bytes after them
pub by_blocks : (p : ℕ → Bool) (n k : ℕ) (bs : List ℕ) → (list_all (list_all p) (first_chunks n k bs) && list_all p (drop (k * n) bs)) ≡ list_all p bs
by_blocks p n zero bs = let none : 0 * n ≡ 0 = omega arith in ap (λ i. list_all p (drop i bs)) none
by_blocks p n (suc k) bs =
    let past : n + k * n ≡ suc k * n = add_comm n (k * n) ∙ sym (suc-mul k n) in
    and_assoc (list_all p (take n bs)) (list_all (list_all p) (first_chunks n k (drop n bs))) (list_all p (drop (suc k * n) bs))
    ∙ ap (λ t. list_all p (take n bs) && (list_all (list_all p) (first_chunks n k (drop n bs)) && list_all p t)) (sym (drop-drop (k * n) n bs ∙ ap (λ i. drop i bs) past))
    ∙ ap (λ t. list_all p (take n bs) && t) (by_blocks p n k (drop n bs))
    ∙ sym (list_all-append p (take n bs) (drop n bs))
    ∙ ap (list_all p) (take-append-drop n bs)

pub twice : (t q : Bool) → t ≡ q → not (not t) ≡ q
twice true q e = e
twice false q e = e
