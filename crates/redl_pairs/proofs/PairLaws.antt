-- That no byte makes a word with the next one, in parts of a text, and as what the text lacks.
use Rattle.std.proofs.Common.{◌≡◌, ◌∙◌, refl, sym, ap, ap₂, ℕ, zero, suc, ◌+◌, ◌-◌, ◌≤◌, List, [], ◌∷◌, length, take, drop, Bool, true, false, ◌==◌, ◌&&◌, ◌||◌, arith}
use Rattle.std.specs.Prelude.{not}
use Rattle.std.proofs.lemmas.Bool.{and_parts, and_from}
use Rattle.std.proofs.lemmas.List.{drop-drop}
use Rattle.std.proofs.Math.Bool.{and_assoc}
use Rattle.redl_reading.specs.Lists.{lacks}
use Rattle.redl_pairs.specs.Pairs.{begins_either, lacks_both}

-- ---- words

with_true : (b : Bool) → (b && true) ≡ b
with_true true = refl
with_true false = refl

with_false : (b : Bool) → not (b && false) ≡ true
with_false true = refl
with_false false = refl

apart : (p q m n : Bool) → (not (p || q) && (m && n)) ≡ ((not p && m) && (not q && n))
apart true q m n = refl
apart false true true n = refl
apart false true false n = refl
apart false false m n = refl

pub pairs_are_words : (a b c d : ℕ) (t : List ℕ) → lacks_both (begins_either a b c d) t (drop 1 t) ≡ (lacks (a ∷ b ∷ []) t && lacks (c ∷ d ∷ []) t)
pairs_are_words a b c d [] = refl
pairs_are_words a b c d (x ∷ []) =
    sym (ap₂ (λ (p : Bool) (q : Bool). (p && true) && (q && true)) (with_false (x == a)) (with_false (x == c)))
pairs_are_words a b c d (x ∷ y ∷ t) =
    let m = lacks (a ∷ b ∷ []) (y ∷ t) in
    let n = lacks (c ∷ d ∷ []) (y ∷ t) in
    ap (λ (rest : Bool). not (begins_either a b c d x y) && rest) (pairs_are_words a b c d (y ∷ t))
    ∙ apart (x == a && y == b) (x == c && y == d) m n
    ∙ sym (ap₂ (λ (p : Bool) (q : Bool). (not (x == a && p) && m) && (not (x == c && q) && n)) (with_true (y == b)) (with_true (y == d)))

-- ---- parts

module _ (test : ℕ → ℕ → Bool) where
  nothing_more : (xs : List ℕ) → lacks_both test xs [] ≡ true
  nothing_more [] = refl
  nothing_more (x ∷ xs) = refl

  both_parts : (n : ℕ) (xs ys : List ℕ) → (lacks_both test (take n xs) (take n ys) && lacks_both test (drop n xs) (drop n ys)) ≡ lacks_both test xs ys
  both_parts zero xs ys = refl
  both_parts (suc n) [] ys = refl
  both_parts (suc n) (x ∷ xs) [] = nothing_more (drop n xs)
  both_parts (suc n) (x ∷ xs) (y ∷ ys) =
      and_assoc (not (test x y)) (lacks_both test (take n xs) (take n ys)) (lacks_both test (drop n xs) (drop n ys))
      ∙ ap (λ (rest : Bool). not (test x y) && rest) (both_parts n xs ys)

  -- the bytes after those of what is left
  next_left : (n : ℕ) (t : List ℕ) → drop n (drop 1 t) ≡ drop 1 (drop n t)
  next_left n t =
      let same : 1 + n ≡ n + 1 = omega arith in
      drop-drop n 1 t ∙ ap (λ (k : ℕ). drop k t) same ∙ sym (drop-drop 1 n t)

  -- a front, and what is left
  pub front_and_rest : (n : ℕ) (t : List ℕ)
      → (lacks_both test (take n t) (take n (drop 1 t)) && lacks_both test (drop n t) (drop 1 (drop n t))) ≡ lacks_both test t (drop 1 t)
  front_and_rest n t =
      ap (λ (next : List ℕ). lacks_both test (take n t) (take n (drop 1 t)) && lacks_both test (drop n t) next) (sym (next_left n t))
      ∙ both_parts n t (drop 1 t)

  -- a front that holds one of the words, and one that lacks them
  pub front_holds : (n : ℕ) (t : List ℕ) → lacks_both test (take n t) (take n (drop 1 t)) ≡ false → lacks_both test t (drop 1 t) ≡ false
  front_holds n t h = sym (front_and_rest n t) ∙ ap (λ (front : Bool). front && lacks_both test (drop n t) (drop 1 (drop n t))) h

  pub front_lacking : (n : ℕ) (t : List ℕ) → lacks_both test (take n t) (take n (drop 1 t)) ≡ true → lacks_both test (drop n t) (drop 1 (drop n t)) ≡ lacks_both test t (drop 1 t)
  front_lacking n t h = sym (ap (λ (front : Bool). front && lacks_both test (drop n t) (drop 1 (drop n t))) h) ∙ front_and_rest n t

  one_lacks : (t : List ℕ) → length t ≡ 1 → lacks_both test t (drop 1 t) ≡ true
  one_lacks [] one = refl
  one_lacks (x ∷ []) one = refl
  one_lacks (x ∷ y ∷ t) one = absurd (omega arith)

  -- of a text with one byte more than the front, the front is all
  pub front_is_all : (n : ℕ) (t : List ℕ) → length (drop n t) ≡ 1 → lacks_both test (take n t) (take n (drop 1 t)) ≡ lacks_both test t (drop 1 t)
  front_is_all n t one =
      sym (with_true (lacks_both test (take n t) (take n (drop 1 t))))
      ∙ ap (λ (rest : Bool). lacks_both test (take n t) (take n (drop 1 t)) && rest) (sym (one_lacks (drop n t) one))
      ∙ front_and_rest n t

  -- where a text lacks the words, so does what is left of it, and where what is left does not, nor does the text
  pub rest_lacks : (n : ℕ) (t : List ℕ) → lacks_both test t (drop 1 t) ≡ true → lacks_both test (drop n t) (drop 1 (drop n t)) ≡ true
  rest_lacks n t h = (and_parts (lacks_both test (take n t) (take n (drop 1 t))) (lacks_both test (drop n t) (drop 1 (drop n t))) (front_and_rest n t ∙ h)).1

  pub rest_holds : (n : ℕ) (t : List ℕ) → lacks_both test (drop n t) (drop 1 (drop n t)) ≡ false → lacks_both test t (drop 1 t) ≡ false
  rest_holds n t h =
      sym (front_and_rest n t)
      ∙ ap (λ (rest : Bool). lacks_both test (take n t) (take n (drop 1 t)) && rest) h
      ∙ none (lacks_both test (take n t) (take n (drop 1 t)))
    where
      none : (b : Bool) → (b && false) ≡ false
      none true = refl
      none false = refl

  -- of a text whose last bytes were looked at before those before them
  pub whole_by_last : (i j : ℕ) (t : List ℕ) → j ≤ i → lacks_both test (drop i t) (drop 1 (drop i t)) ≡ lacks_both test t (drop 1 t)
      → lacks_both test (drop j t) (drop 1 (drop j t)) ≡ lacks_both test t (drop 1 t)
  whole_by_last i j t le so_far = by (lacks_both test (drop j t) (drop 1 (drop j t))) refl
    where
      within : drop (i - j) (drop j t) ≡ drop i t
      within =
          let sum : j + (i - j) ≡ i = omega arith in
          drop-drop (i - j) j t ∙ ap (λ (k : ℕ). drop k t) sum

      by : (b : Bool) → lacks_both test (drop j t) (drop 1 (drop j t)) ≡ b → b ≡ lacks_both test t (drop 1 t)
      by true e = sym (sym so_far ∙ ap (λ (u : List ℕ). lacks_both test u (drop 1 u)) (sym within) ∙ rest_lacks (i - j) (drop j t) e)
      by false e = sym (rest_holds j t e)
