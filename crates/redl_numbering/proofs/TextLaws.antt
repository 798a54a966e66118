-- Texts with places for numbers, and bullets, byte by byte.
use Rattle.std.proofs.Common.{◌≡◌, ◌∙◌, ◌-◌, ◌<◌, ◌≤◌, arith, append-nil, ℕ, zero, suc, Bool, true, false, List, [], ◌∷◌, ◌++◌, ◌&&◌, ◌==◌, refl, sym, ap, append_assoc, if◌then◌else◌}
use Rattle.std.specs.Prelude.{nat_le}
use Rattle.redl_numbering.specs.NumberTexts.{bullet, bullets_from, filled_from, is_private}
use Rattle.redl_numbering.specs.Inside.Fills.{added, opened}

module _ (part : ℕ → List ℕ) where
  by_sign : (b : ℕ) (bs : List ℕ) (sign : Bool)
      → (if sign then filled_from part true bs else b ∷ filled_from part false bs) ≡ (if sign then [] else b ∷ []) ++ filled_from part sign bs
  by_sign b bs true = refl
  by_sign b bs false = refl

  by_place : (b : ℕ) (bs : List ℕ) (sign digit : Bool)
      → (if digit then part (b - 49) ++ filled_from part false bs else 37 ∷ (if sign then filled_from part true bs else b ∷ filled_from part false bs))
      ≡ (if digit then part (b - 49) else 37 ∷ (if sign then [] else b ∷ [])) ++ filled_from part (if digit then false else sign) bs
  by_place b bs sign true = refl
  by_place b bs sign false = ap (λ (ts : List ℕ). 37 ∷ ts) (by_sign b bs sign)

  -- what a byte adds, and what those behind it add then
  filled-byte : (pending : Bool) (b : ℕ) (bs : List ℕ) → filled_from part pending (b ∷ bs) ≡ added part pending b ++ filled_from part (opened pending b) bs
  filled-byte false b bs = by_sign b bs (b == 37)
  filled-byte true b bs = by_place b bs (b == 37) (nat_le 49 b && nat_le b 57)

  pub filled-more : (out more all : List ℕ) (pending now : Bool) (b : ℕ) (bs : List ℕ) → more ≡ out ++ added part pending b → now ≡ opened pending b
      → out ++ filled_from part pending (b ∷ bs) ≡ all → more ++ filled_from part now bs ≡ all
  filled-more out more all pending now b bs grown is so_far =
      ap (λ (ts : List ℕ). ts ++ filled_from part now bs) grown ∙ ap (λ o. (out ++ added part pending b) ++ filled_from part o bs) is
      ∙ append_assoc out (added part pending b) (filled_from part (opened pending b) bs)
      ∙ ap (λ (ts : List ℕ). out ++ ts) (sym (filled-byte pending b bs)) ∙ so_far

-- ---- bullets

-- what a byte adds, where so many are left out
abbrev bullet_byte : ℕ → ℕ → List ℕ → List ℕ
bullet_byte (suc n) b bs = []
bullet_byte zero b bs = if is_private b bs then bullet else b ∷ []

abbrev skip_after : ℕ → ℕ → List ℕ → ℕ
skip_after (suc n) b bs = n
skip_after zero b bs = if is_private b bs then 2 else 0

bullets-byte : (skip b : ℕ) (bs : List ℕ) → bullets_from skip (b ∷ bs) ≡ bullet_byte skip b bs ++ bullets_from (skip_after skip b bs) bs
bullets-byte (suc n) b bs = refl
bullets-byte zero b bs = by (is_private b bs)
  where
    by : (own : Bool) → (if own then bullet ++ bullets_from 2 bs else b ∷ bullets_from 0 bs) ≡ (if own then bullet else b ∷ []) ++ bullets_from (if own then 2 else 0) bs
    by true = refl
    by false = refl

-- ---- what is written and what the bytes that are left add, a byte more

module _ (out more all : List ℕ) (skip now b : ℕ) (bs : List ℕ) where
  bullets-more : more ≡ out ++ bullet_byte skip b bs → now ≡ skip_after skip b bs → out ++ bullets_from skip (b ∷ bs) ≡ all → more ++ bullets_from now bs ≡ all
  bullets-more grown is so_far =
      ap (λ (ts : List ℕ). ts ++ bullets_from now bs) grown ∙ ap (λ n. (out ++ bullet_byte skip b bs) ++ bullets_from n bs) is
      ∙ append_assoc out (bullet_byte skip b bs) (bullets_from (skip_after skip b bs) bs)
      ∙ ap (λ (ts : List ℕ). out ++ ts) (sym (bullets-byte skip b bs)) ∙ so_far

module _ (out more all : List ℕ) where
  -- it belongs to a sign that was replaced
  pub bullets-skipped : (skip now b : ℕ) (bs : List ℕ) → 0 < skip → more ≡ out → now ≡ skip - 1 → out ++ bullets_from skip (b ∷ bs) ≡ all → more ++ bullets_from now bs ≡ all
  bullets-skipped zero now b bs within same is so_far = absurd (omega arith)
  bullets-skipped (suc n) now b bs within same is so_far =
      let less : now ≡ n = omega arith in
      bullets-more out more all (suc n) now b bs (same ∙ sym (append-nil out)) less so_far

  -- a sign begins with it
  pub bullets-sign : (skip now b : ℕ) (bs : List ℕ) → skip ≤ 0 → is_private b bs ≡ true → more ≡ out ++ bullet → now ≡ 2 → out ++ bullets_from skip (b ∷ bs) ≡ all → more ++ bullets_from now bs ≡ all
  bullets-sign (suc n) now b bs none sign grown is so_far = absurd (omega arith)
  bullets-sign zero now b bs none sign grown is so_far =
      bullets-more out more all zero now b bs (grown ∙ sym (ap (λ (own : Bool). out ++ (if own then bullet else b ∷ [])) sign)) (is ∙ sym (ap (λ (own : Bool). if own then 2 else 0) sign)) so_far

  -- it stays
  pub bullets-stays : (skip now b : ℕ) (bs : List ℕ) → skip ≤ 0 → is_private b bs ≡ false → more ≡ out ++ b ∷ [] → now ≡ skip → out ++ bullets_from skip (b ∷ bs) ≡ all → more ++ bullets_from now bs ≡ all
  bullets-stays (suc n) now b bs none sign grown is so_far = absurd (omega arith)
  bullets-stays zero now b bs none sign grown is so_far =
      bullets-more out more all zero now b bs (grown ∙ sym (ap (λ (own : Bool). out ++ (if own then bullet else b ∷ [])) sign)) (is ∙ sym (ap (λ (own : Bool). if own then 2 else 0) sign)) so_far
