-- Steps are known by their numbers.
use Rattle.std.proofs.Common.{◌≡◌, ◌∙◌, refl, sym, ap, ℕ, List, [], ◌∷◌, ◌++◌, length, take, drop, get_or}
use Rattle.std.proofs.Math.Seq.{drop-append_seam, take-append_seam}
use Rattle.redl_spans.specs.Inside.Steps.{anchor_number, encoded}
use Rattle.redl_spans.specs.Units.{Step, units_step, place_step}
use Rattle.redl_spans.specs.declared.place.Anchor.{Anchor}
use Rattle.redl_spans.specs.declared.place.Anchor.TheVariants.{Start, End, Reference}

abbrev anchor_at : ℕ → Anchor
anchor_at n = get_or (Start ∷ Start ∷ End ∷ Reference ∷ []) n Start

there : (a : Anchor) → anchor_at (anchor_number a) ≡ a
there Start = refl
there End = refl
there Reference = refl

same_anchor : (a b : Anchor) → anchor_number a ≡ anchor_number b → a ≡ b
same_anchor a b e = sym (there a) ∙ ap anchor_at e ∙ there b

-- no anchor has the number of units
no_units : (a : Anchor) → 0 ≡ anchor_number a → ⊥
no_units Start e = cc
no_units End e = cc
no_units Reference e = cc

-- of two texts of one length, each with more after it
same_front : (a b u v : List ℕ) → length a ≡ length b → a ++ u ≡ b ++ v → a ≡ b
same_front a b u v n e = sym (take-append_seam a u) ∙ ap (take (length a)) e ∙ ap (λ k. take k (b ++ v)) n ∙ take-append_seam b v

same_rest : (a b u v : List ℕ) → length a ≡ length b → a ++ u ≡ b ++ v → u ≡ v
same_rest a b u v n e = sym (drop-append_seam a u) ∙ ap (drop (length a)) e ∙ ap (λ k. drop k (b ++ v)) n ∙ drop-append_seam b v

head_same : (a b : ℕ) (u v : List ℕ) → a ∷ u ≡ b ∷ v → a ≡ b
head_same a b u v e = cc

tail_same : (a b : ℕ) (u v : List ℕ) → a ∷ u ≡ b ∷ v → u ≡ v
tail_same a b u v e = cc

pub same_steps : (xs ys : List Step) → encoded xs ≡ encoded ys → xs ≡ ys
same_steps [] [] e = refl
same_steps [] (units_step n ∷ ys) e = cc
same_steps [] (place_step a id ∷ ys) e = cc
same_steps (units_step n ∷ xs) [] e = cc
same_steps (place_step a id ∷ xs) [] e = cc
same_steps (units_step m ∷ xs) (units_step n ∷ ys) e =
    let one = tail_same 0 0 (m ∷ encoded xs) (n ∷ encoded ys) e in
    ap (λ k. units_step k ∷ xs) (head_same m n (encoded xs) (encoded ys) one)
    ∙ ap (λ (zs : List Step). units_step n ∷ zs) (same_steps xs ys (tail_same m n (encoded xs) (encoded ys) one))
same_steps (units_step m ∷ xs) (place_step b id ∷ ys) e =
    absurd (no_units b (head_same 0 (anchor_number b) (m ∷ encoded xs) (length id ∷ (id ++ encoded ys)) e))
same_steps (place_step a id ∷ xs) (units_step n ∷ ys) e =
    absurd (no_units a (sym (head_same (anchor_number a) 0 (length id ∷ (id ++ encoded xs)) (n ∷ encoded ys) e)))
same_steps (place_step a id ∷ xs) (place_step b other ∷ ys) e =
    let x_rest = length id ∷ (id ++ encoded xs) in
    let y_rest = length other ∷ (other ++ encoded ys) in
    let anchor = same_anchor a b (head_same (anchor_number a) (anchor_number b) x_rest y_rest e) in
    let one = tail_same (anchor_number a) (anchor_number b) x_rest y_rest e in
    let lengths = head_same (length id) (length other) (id ++ encoded xs) (other ++ encoded ys) one in
    let two = tail_same (length id) (length other) (id ++ encoded xs) (other ++ encoded ys) one in
    let rest = same_steps xs ys (same_rest id other (encoded xs) (encoded ys) lengths two) in
    ap (λ (c : Anchor). place_step c id ∷ xs) anchor
    ∙ ap (λ (i : List ℕ). place_step b i ∷ xs) (same_front id other (encoded xs) (encoded ys) lengths two)
    ∙ ap (λ (zs : List Step). place_step b other ∷ zs) rest
