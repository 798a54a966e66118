-- A text that lacks a word lacks each longer one that begins so, and so do its parts.
use Rattle.std.proofs.Common.{◌≡◌, ◌∙◌, inl, inr, refl, sym, ap, ℕ, List, [], ◌∷◌, ◌++◌, Bool, true, false, true≢false, eqb, ◌&&◌, length, arith}
use Rattle.std.specs.Prelude.{not}
use Rattle.std.proofs.lemmas.Bool.{and_parts, and_from, cases_Bool, not-true}
use Rattle.redl_reading.specs.Lists.{begins, lacks}

-- ---- longer words

longer_step : (same u v : Bool) → (u ≡ false → v ≡ false) → (same && u) ≡ false → (same && v) ≡ false
longer_step true u v later e = later e
longer_step false u v later e = refl

begins-longer : (u v bs : List ℕ) → begins u bs ≡ false → begins (u ++ v) bs ≡ false
begins-longer [] v bs e = absurd (true≢false e)
begins-longer (w ∷ ws) v [] e = refl
begins-longer (w ∷ ws) v (b ∷ bs) e = longer_step (eqb b w) (begins ws bs) (begins (ws ++ v) bs) (begins-longer ws v bs) e

-- a text that lacks a word lacks each longer one that begins with it
pub lacks-longer : (w : ℕ) (ws more t : List ℕ) → lacks (w ∷ ws) t ≡ true → lacks ((w ∷ ws) ++ more) t ≡ true
lacks-longer w ws more [] h = refl
lacks-longer w ws more (b ∷ bs) h =
    let both = and_parts (not (begins (w ∷ ws) (b ∷ bs))) (lacks (w ∷ ws) bs) h in
    and_from (not (begins ((w ∷ ws) ++ more) (b ∷ bs))) (lacks ((w ∷ ws) ++ more) bs)
    (ap not (begins-longer (w ∷ ws) more (b ∷ bs) (not-true (begins (w ∷ ws) (b ∷ bs)) both.0))) (lacks-longer w ws more bs both.1)

-- ---- parts of a text

begins_more : (word t more : List ℕ) → begins word t ≡ true → begins word (t ++ more) ≡ true
begins_more [] t more e = refl
begins_more (w ∷ ws) [] more e = absurd cc
begins_more (w ∷ ws) (b ∷ bs) more e =
    let both = and_parts (eqb b w) (begins ws bs) e in
    rw both.0 (begins_more ws bs more both.1)

begins_less : (word t more : List ℕ) → begins word (t ++ more) ≡ false → begins word t ≡ false
begins_less word t more e =
    elim (cases_Bool (begins word t)) [
      | inl h ↦ absurd (true≢false (sym (begins_more word t more h) ∙ e))
      | inr h ↦ h
    ]

-- what a text lacks, its front lacks
pub lacks-front : (w : ℕ) (ws x y : List ℕ) → lacks (w ∷ ws) (x ++ y) ≡ true → lacks (w ∷ ws) x ≡ true
lacks-front w ws [] y h = refl
lacks-front w ws (b ∷ x) y h =
    let both = and_parts (not (begins (w ∷ ws) (b ∷ (x ++ y)))) (lacks (w ∷ ws) (x ++ y)) h in
    and_from (not (begins (w ∷ ws) (b ∷ x))) (lacks (w ∷ ws) x)
    (ap not (begins_less (w ∷ ws) (b ∷ x) y (not-true (begins (w ∷ ws) (b ∷ (x ++ y))) both.0))) (lacks-front w ws x y both.1)

-- what a text lacks, its rest lacks
pub lacks-rest : (w : ℕ) (ws x y : List ℕ) → lacks (w ∷ ws) (x ++ y) ≡ true → lacks (w ∷ ws) y ≡ true
lacks-rest w ws [] y h = h
lacks-rest w ws (b ∷ x) y h = lacks-rest w ws x y (and_parts (not (begins (w ∷ ws) (b ∷ (x ++ y)))) (lacks (w ∷ ws) (x ++ y)) h).1

-- ---- the empty word

pub empty_everywhere : (word t : List ℕ) → length word ≡ 0 → lacks word t ≡ false
empty_everywhere [] [] e = refl
empty_everywhere [] (b ∷ bs) e = refl
empty_everywhere (w ∷ ws) t e = absurd (omega arith)
