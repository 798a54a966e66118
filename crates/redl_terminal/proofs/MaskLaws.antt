-- What a masked text begins with.
use Rattle.std.proofs.Common.{◌≡◌, ◌≤◌, ◌<◌, ◌-◌, ℕ, zero, suc, cond, List, [], ◌∷◌, ◌++◌, drop, take, length, Bool, true, false, true≢false, ◌||◌, ◌==◌, not, refl, sym, ap, ◌∙◌, arith}
use Rattle.std.proofs.lemmas.List.{length-drop, take_all}
use Rattle.redl_reading.specs.Lists.{front, after}
use Rattle.redl_terminal.specs.declared.extent.Extent.{Extent}
use Rattle.redl_terminal.specs.Masks.{begins_pair, begins_triple, hidden_length, is_control, is_plain, masked, masked_after}

-- the bytes of a hidden character are passed over
masked_after-drop : (extent : Extent) (left : ℕ) (bs : List ℕ) → masked_after extent left bs ≡ masked extent (drop left bs)
masked_after-drop extent zero bs = refl
masked_after-drop extent (suc left) [] = refl
masked_after-drop extent (suc left) (b ∷ bs) = masked_after-drop extent left bs

-- ---- a byte with which no hidden character begins

no_pair : (b : ℕ) (bs : List ℕ) → (b == 194) ≡ false → (b == 216) ≡ false → begins_pair b bs ≡ false
no_pair b [] e f = refl
no_pair b (x ∷ bs) e f = simp (e, f)

no_triple : (b : ℕ) (bs : List ℕ) → (b == 226) ≡ false → (b == 239) ≡ false → begins_triple b bs ≡ false
no_triple b [] e f = refl
no_triple b (x ∷ []) e f = refl
no_triple b (x ∷ y ∷ bs) e f = simp (e, f)

none_hidden : (extent : Extent) (b : ℕ) (bs : List ℕ) (c p q r s : Bool)
    → is_control extent b ≡ c → (b == 194) ≡ p → (b == 216) ≡ q → (b == 226) ≡ r → (b == 239) ≡ s
    → not (c || p || q || r || s) ≡ true → hidden_length extent b bs ≡ 0
unfolding hidden_length
none_hidden extent b bs true p q r s is_c is_p is_q is_r is_s h = absurd (true≢false (sym h))
none_hidden extent b bs false true q r s is_c is_p is_q is_r is_s h = absurd (true≢false (sym h))
none_hidden extent b bs false false true r s is_c is_p is_q is_r is_s h = absurd (true≢false (sym h))
none_hidden extent b bs false false false true s is_c is_p is_q is_r is_s h = absurd (true≢false (sym h))
none_hidden extent b bs false false false false true is_c is_p is_q is_r is_s h = absurd (true≢false (sym h))
none_hidden extent b bs false false false false false is_c is_p is_q is_r is_s h =
    rw (is_c, no_pair b bs is_p is_q, no_triple b bs is_r is_s) refl

plain-length : (extent : Extent) (b : ℕ) (bs : List ℕ) → is_plain extent b ≡ true → hidden_length extent b bs ≡ 0
plain-length extent b bs h =
    none_hidden extent b bs (is_control extent b) (b == 194) (b == 216) (b == 226) (b == 239) refl refl refl refl refl h

unhidden_step : (extent : Extent) (b : ℕ) (bs : List ℕ) → hidden_length extent b bs ≡ 0 → masked extent (b ∷ bs) ≡ b ∷ masked extent bs
unhidden_step extent b bs h = rw h refl

-- a run of such bytes stays, and what comes after it is masked
pub masked-plain : (extent : Extent) (bs : List ℕ) → masked extent bs ≡ front (is_plain extent) bs ++ masked extent (after (is_plain extent) bs)
masked-plain extent [] = refl
masked-plain extent (b ∷ bs) = by (is_plain extent b) refl (masked-plain extent bs) where
  by : (test : Bool) → is_plain extent b ≡ test → masked extent bs ≡ front (is_plain extent) bs ++ masked extent (after (is_plain extent) bs)
      → masked extent (b ∷ bs) ≡ front (is_plain extent) (b ∷ bs) ++ masked extent (after (is_plain extent) (b ∷ bs))
  by true is h = rw is (unhidden_step extent b bs (plain-length extent b bs is) ∙ ap (λ (l : List ℕ). b ∷ l) h)
  by false is h = rw is refl

-- ---- the first character

-- a byte that begins no hidden character stays
pub masked-unhidden : (extent : Extent) (bytes : List ℕ) (b : ℕ) (bs : List ℕ) → bytes ≡ b ∷ bs → hidden_length extent b bs ≡ 0
    → masked extent bytes ≡ take 1 bytes ++ masked extent bs
masked-unhidden extent bytes b bs e h = rw e (unhidden_step extent b bs h)

hidden_step : (extent : Extent) (b : ℕ) (bs : List ℕ) (count : ℕ) → hidden_length extent b bs ≡ suc count
    → masked extent (b ∷ bs) ≡ 63 ∷ masked extent (drop count bs)
hidden_step extent b bs count h = rw h (ap (λ (l : List ℕ). 63 ∷ l) (masked_after-drop extent count bs))

without_hidden : (extent : Extent) (bytes : List ℕ) (b : ℕ) (bs : List ℕ) (count : ℕ) → bytes ≡ b ∷ bs → hidden_length extent b bs ≡ count → 0 < count
    → masked extent bytes ≡ 63 ∷ masked extent (drop count bytes)
without_hidden extent bytes b bs zero e h some = absurd (omega (arith, some))
without_hidden extent bytes b bs (suc count) e h some = rw e (hidden_step extent b bs count h)

-- a hidden character is a question mark, and the bytes after it are masked
pub masked-hidden : (extent : Extent) (bytes : List ℕ) (b : ℕ) (bs : List ℕ) (count : ℕ) → bytes ≡ b ∷ bs → hidden_length extent b bs ≡ count → 0 < count
    → masked extent bytes ≡ 63 ∷ masked extent (take (length bytes - count) (drop count bytes))
masked-hidden extent bytes b bs count e h some =
    without_hidden extent bytes b bs count e h some
    ∙ ap (λ (l : List ℕ). 63 ∷ masked extent l) (sym (take_all (length bytes - count) (drop count bytes) (omega (arith, length-drop count bytes))))

-- ---- what is left is shorter

after_short_step : (t : Bool) (b : ℕ) (a bs : List ℕ) → length a ≤ length bs → length (cond t a (b ∷ bs)) ≤ length (b ∷ bs)
after_short_step true b a bs h = omega arith
after_short_step false b a bs h = omega arith

after_short : (p : ℕ → Bool) (bs : List ℕ) → length (after p bs) ≤ length bs
after_short p [] = omega arith
after_short p (b ∷ bs) = after_short_step (p b) b (after p bs) bs (after_short p bs)

-- where the first byte is passed over, fewer are left
pub after_shorter : (p : ℕ → Bool) (bytes : List ℕ) (b : ℕ) (bs : List ℕ) → bytes ≡ b ∷ bs → p b ≡ true → length (after p bytes) < length bytes
after_shorter p bytes b bs e h = rw (e, h) (omega (arith, after_short p bs))
