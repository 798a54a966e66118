-- The first of three bytes by blocks.
use Rattle.std.proofs.Common.{◌≡◌, ℕ, suc, ◌≤◌, ◌<◌, ◌%◌, ◌^◌, Bool, true, false, cond, eqb, List, [], ◌∷◌, ◌++◌, length, map, take, drop, replicate, refl, sym, ap, ap₂, ◌∙◌, ◌+◌, length-append, arith}
use Rattle.std.specs.Prelude.{not}
use Rattle.std.specs.List.{prefix_len}
use Rattle.std.specs.Int.Count.{count_trailing_zeros}
use Rattle.std.specs.Simd.Lanes.{mask_l, zip2, top}
use Rattle.std.proofs.lemmas.Simd.{mask_l-mod, first_set_mask_l}
use Rattle.std.proofs.lemmas.Bool.{eqb-true}
use Rattle.std.proofs.lemmas.List.{length-map, take-append-drop}
use Rattle.redl_reading.specs.Lists.{front, after, before}
use Rattle.redl_reading.proofs.Runs.{front-after}
use Rattle.redl_reading.proofs.Words.{before-append}
use Rattle.redl_markup.proofs.Blocks.{lane, Lanes}

-- ---- a block

tops : (p : ℕ → Bool) (block : List ℕ) → map (top 7) (map (λ b. lane (p b)) block) ≡ map p block
tops p [] = refl
tops p (b ∷ bs) = head (p b) (tops p bs) where
  head : (t : Bool) → map (top 7) (map (λ x. lane (p x)) bs) ≡ map p bs → (top 7 (lane t) ∷ map (top 7) (map (λ x. lane (p x)) bs)) ≡ (t ∷ map p bs)
  head true e = ap (λ (z : List Bool). true ∷ z) e
  head false e = ap (λ (z : List Bool). false ∷ z) e

pub marks_of : (p : ℕ → Bool) (block lanes : List ℕ) (n : ℕ) → length block ≡ n → n ≤ 64 → Lanes p block lanes → mask_l (map (top 7) lanes) % 2 ^ 64 ≡ mask_l (map p block)
marks_of p block lanes n long small e =
    let short : length (map p block) ≤ 64 = omega (arith, length-map block p, long) in
    ap (λ ls. mask_l (map (top 7) ls) % 2 ^ 64) e ∙ ap (λ m. mask_l m % 2 ^ 64) (tops p block) ∙ mask_l-mod (map p block) 64 short

-- how many bytes of a block come before the first that passes
pub when_none : (p : ℕ → Bool) (block : List ℕ) (m n : ℕ) → m ≡ mask_l (map p block) → m ≡ 0 → length block ≡ n → n ≤ 64 → n ≡ prefix_len (λ x. not (p x)) block
when_none p block m n e zeros long small =
    let none : mask_l (map p block) ≡ 0 = sym e ∙ zeros in
    sym (ap (λ (k : ℕ). cond (eqb k 0) n (count_trailing_zeros 64 k)) none) ∙ first_set_mask_l p block n long small

pub when_some : (p : ℕ → Bool) (block : List ℕ) (m n : ℕ) → m ≡ mask_l (map p block) → (m ≡ 0 → ⊥) → length block ≡ n → n ≤ 64 → count_trailing_zeros 64 m ≡ prefix_len (λ x. not (p x)) block
when_some p block m n e some long small = by_case (eqb m 0) refl where
  by_case : (t : Bool) → eqb m 0 ≡ t → count_trailing_zeros 64 m ≡ prefix_len (λ x. not (p x)) block
  by_case true h = absurd (some (eqb-true m 0 h))
  by_case false h =
      sym (ap (λ (t : Bool). cond t n (count_trailing_zeros 64 m)) h)
      ∙ ap (λ (k : ℕ). cond (eqb k 0) n (count_trailing_zeros 64 k)) e
      ∙ first_set_mask_l p block n long small

-- ---- a block in a text

hit_step : (p : ℕ → Bool) (t : Bool) (b n l : ℕ) (xs : List ℕ) → (n < l → drop n xs ≡ after p xs) → cond t (1 + n) 0 < suc l → drop (cond t (1 + n) 0) (b ∷ xs) ≡ cond t (after p xs) (b ∷ xs)
hit_step p true b n l xs below lt =
    let one : 1 + n ≡ suc n = omega arith in
    ap (λ (k : ℕ). drop k (b ∷ xs)) one ∙ below (omega arith)
hit_step p false b n l xs below lt = refl

pub hit : (p : ℕ → Bool) (block rest : List ℕ) → prefix_len p block < length block → drop (prefix_len p block) (block ++ rest) ≡ after p (block ++ rest)
hit p [] rest lt = absurd (omega arith)
hit p (b ∷ bs) rest lt = hit_step p (p b) b (prefix_len p bs) (length bs) (bs ++ rest) (hit p bs rest) lt

miss_step : (p : ℕ → Bool) (t : Bool) (b n l : ℕ) (xs rest : List ℕ) → (l ≤ n → after p xs ≡ after p rest) → suc l ≤ cond t (1 + n) 0 → cond t (after p xs) (b ∷ xs) ≡ after p rest
miss_step p true b n l xs rest below le = below (omega arith)
miss_step p false b n l xs rest below le = absurd (omega arith)

pub miss : (p : ℕ → Bool) (block rest : List ℕ) → length block ≤ prefix_len p block → after p (block ++ rest) ≡ after p rest
miss p [] rest le = refl
miss p (b ∷ bs) rest le = miss_step p (p b) b (prefix_len p bs) (length bs) (bs ++ rest) rest (miss p bs rest) le

pub before_after : (p : ℕ → Bool) (bs rest : List ℕ) → rest ≡ after p bs → before bs rest ≡ front p bs
before_after p bs rest e =
    ap (λ (z : List ℕ). before bs z) e ∙ ap (λ (z : List ℕ). before z (after p bs)) (sym (front-after p bs)) ∙ before-append (front p bs) (after p bs)

-- the same where the block is the first 16 bytes of a text
whole_of : (xs block rest : List ℕ) → block ≡ take 16 xs → rest ≡ drop 16 xs → xs ≡ block ++ rest
whole_of xs block rest e f = sym (ap (λ (z : List ℕ). z ++ rest) e ∙ ap (λ (z : List ℕ). take 16 xs ++ z) f ∙ take-append-drop 16 xs)

pub hit_in : (p : ℕ → Bool) (xs block rest : List ℕ) (n : ℕ) → block ≡ take 16 xs → rest ≡ drop 16 xs → length rest + 16 ≡ length xs → n ≡ prefix_len p block → n < 16 → drop n xs ≡ after p xs
hit_in p xs block rest n e f long counted few =
    let whole = whole_of xs block rest e f in
    let lt : prefix_len p block < length block = omega (arith, length-append block rest, ap length whole, long, counted, few) in
    ap (λ (k : ℕ). drop k xs) counted ∙ ap (λ (z : List ℕ). drop (prefix_len p block) z) whole ∙ hit p block rest lt ∙ ap (after p) (sym whole)

pub miss_in : (p : ℕ → Bool) (xs block rest : List ℕ) (n : ℕ) → block ≡ take 16 xs → rest ≡ drop 16 xs → length rest + 16 ≡ length xs → n ≡ prefix_len p block → 16 ≤ n → after p rest ≡ after p xs
miss_in p xs block rest n e f long counted many =
    let whole = whole_of xs block rest e f in
    let le : length block ≤ prefix_len p block = omega (arith, length-append block rest, ap length whole, long, counted, many) in
    sym (ap (after p) whole ∙ miss p block rest le)

-- tests that answer alike find the same front
pub front_alike : (p q : ℕ → Bool) (block : List ℕ) → ((b : ℕ) → p b ≡ q b) → prefix_len p block ≡ prefix_len q block
front_alike p q [] e = refl
front_alike p q (b ∷ bs) e = ap₂ (λ (t : Bool) (n : ℕ). cond t (1 + n) 0) (e b) (front_alike p q bs e)
