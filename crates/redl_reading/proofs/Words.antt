-- A leading word of a list.
use Rattle.std.proofs.Common.{◌≡◌, ℕ, Bool, true, false, cond, eqb, List, [], ◌∷◌, ◌++◌, length, length-append, ◌-◌, take, drop, Option, Some, None, refl, sym, ap, ◌∙◌, MatchOption, arith, inl, inr}
use Rattle.std.proofs.lemmas.Bool.{eqb-true, not-true, and_parts, and_from, cases_Bool, eq-eqb}
use lib.Pointwise.{pointwise}
use Rattle.redl_reading.specs.Lists.{behind, begins, before, lacks, past, after, is_other}
use Rattle.redl_reading.proofs.Runs.{after_here}
use Rattle.std.specs.Prelude.{not}
use Rattle.std.proofs.Common.{◌≢◌}
use Rattle.std.proofs.lemmas.List.{take_at}

pub behind_pointwise : (word bs : List ℕ) → pointwise eqb (take (length word) bs) word ≡ true → behind word bs ≡ Some (drop (length word) bs)
behind_pointwise [] bs e = refl
behind_pointwise (w ∷ ws) [] e = absurd cc
behind_pointwise (w ∷ ws) (b ∷ bs) e =
    let both = and_parts (eqb b w) (pointwise eqb (take (length ws) bs) ws) e in
    rw both.0 (behind_pointwise ws bs both.1)

pub behind_not_pointwise : (word bs : List ℕ) → pointwise eqb (take (length word) bs) word ≡ false → behind word bs ≡ None
behind_not_pointwise [] bs e = absurd cc
behind_not_pointwise (w ∷ ws) [] e = refl
behind_not_pointwise (w ∷ ws) (b ∷ bs) e =
    elim (cases_Bool (eqb b w)) [
      | inl same ↦ rw same (behind_not_pointwise ws bs (rw same at e))
      | inr other ↦ rw other refl
    ]

-- what is found after a leading word follows that word
pub behind_takes : (word bs rest : List ℕ) → behind word bs ≡ Some rest → bs ≡ word ++ rest
behind_takes [] bs rest e = cc
behind_takes (w ∷ ws) [] rest e = absurd cc
behind_takes (w ∷ ws) (b ∷ bs) rest e =
    elim (cases_Bool (eqb b w)) [
      | inl same ↦ rw (eqb-true b w same) (ap (λ (x : List ℕ). w ∷ x) (behind_takes ws bs rest (rw same at e)))
      | inr other ↦ absurd (let h : behind (w ∷ ws) (b ∷ bs) ≡ None = rw other refl in cc)
    ]

-- after a leading word the rest is found
pub behind_again : (word rest : List ℕ) → behind word (word ++ rest) ≡ Some rest
behind_again [] rest = refl
behind_again (w ∷ ws) rest = rw (eq-eqb w w refl) (behind_again ws rest)

-- what the call of `strip_prefix` says
pub behind_is : (word bs : List ℕ) (o : Option (List ℕ)) → MatchOption o (pointwise eqb (take (length word) bs) word ≡ false) (λ x. (pointwise eqb (take (length word) bs) word ≡ true) × (x ≡ drop (length word) bs)) → behind word bs ≡ o
behind_is word bs None h = behind_not_pointwise word bs h
behind_is word bs (Some x) h = behind_pointwise word bs h.0 ∙ ap (λ (r : List ℕ). Some r) (sym h.1)

-- where nothing comes after the word, the bytes do not begin with it
pub begins_none : (word bs : List ℕ) → behind word bs ≡ None → begins word bs ≡ false
begins_none [] bs e = absurd (let h : None ≡ Some bs = sym e in cc)
begins_none (w ∷ ws) [] e = refl
begins_none (w ∷ ws) (b ∷ bs) e =
    elim (cases_Bool (eqb b w)) [
      | inl same ↦ rw same (begins_none ws bs (rw same at e))
      | inr other ↦ rw other refl
    ]

-- where bytes do not begin with the word, nothing comes after it
pub none_begins : (word bs : List ℕ) → begins word bs ≡ false → behind word bs ≡ None
none_begins [] bs e = absurd cc
none_begins (w ∷ ws) [] e = refl
none_begins (w ∷ ws) (b ∷ bs) e =
    elim (cases_Bool (eqb b w)) [
      | inl same ↦ rw same (none_begins ws bs (rw same at e))
      | inr other ↦ rw other refl
    ]

-- what comes before a rest
pub before-append : (a rest : List ℕ) → before (a ++ rest) rest ≡ a
before-append a rest = take_at a rest (length (a ++ rest) - length rest) (omega (arith, length-append a rest))

-- bytes that begin with a word have a rest after it
pub begins_some : (word bs : List ℕ) → begins word bs ≡ true → (rest : List ℕ) × (behind word bs ≡ Some rest)
begins_some [] bs e = (bs, refl)
begins_some (w ∷ ws) [] e = absurd cc
begins_some (w ∷ ws) (b ∷ bs) e =
    let both = and_parts (eqb b w) (begins ws bs) e in
    let t = begins_some ws bs both.1 in
    (t.0, ap (λ (same : Bool). cond same (behind ws bs) None) both.0 ∙ t.1)

pub begins_again : (word rest : List ℕ) → begins word (word ++ rest) ≡ true
begins_again [] rest = refl
begins_again (w ∷ ws) rest = rw (eq-eqb w w refl) (begins_again ws rest)

-- what begins with a word still does with more after it
begins_more : (word t more : List ℕ) → begins word t ≡ true → begins word (t ++ more) ≡ true
begins_more [] t more e = refl
begins_more (w ∷ ws) [] more e = absurd cc
begins_more (w ∷ ws) (b ∷ bs) more e =
    let both = and_parts (eqb b w) (begins ws bs) e in
    rw both.0 (begins_more ws bs more both.1)

begins_less : (word t more : List ℕ) → begins word (t ++ more) ≡ false → begins word t ≡ false
begins_less word t more e =
    elim (cases_Bool (begins word t)) [
      | inl h ↦ absurd (let k : false ≡ true = sym e ∙ begins_more word t more h in cc)
      | inr h ↦ h
    ]

-- ---- the first place of a word

-- the first place of a word is at the start if the bytes begin with it
pub past_here : (word bs rest : List ℕ) → behind word bs ≡ Some rest → (bs ≢ []) → past word bs ≡ Some rest
past_here word [] rest e filled = absurd (filled refl)
past_here word (b ∷ bs) rest e filled = rw e refl

-- a byte at which the word does not begin is passed over
pub past_later : (word : List ℕ) (b : ℕ) (bs : List ℕ) → begins word (b ∷ bs) ≡ false → past word (b ∷ bs) ≡ past word bs
past_later word b bs e = rw (none_begins word (b ∷ bs) e) refl

-- no end of a list, followed by a prefix of the word, is the word
abbrev pub NoBorder : List ℕ → Type 0
NoBorder word = (b : ℕ) (t rest : List ℕ) → begins word (b ∷ t) ≡ false → begins word (b ∷ (t ++ (word ++ rest))) ≡ false

-- what is found past a word follows the word and bytes that lack it
pub past_takes : (w : ℕ) (ws bs rest : List ℕ) → past (w ∷ ws) bs ≡ Some rest → (t : List ℕ) × (bs ≡ t ++ ((w ∷ ws) ++ rest)) × (lacks (w ∷ ws) t ≡ true)
past_takes w ws [] rest e = absurd cc
past_takes w ws (b ∷ bs) rest e =
    elim (cases_Bool (begins (w ∷ ws) (b ∷ bs))) [
      | inl here ↦
          let r = begins_some (w ∷ ws) (b ∷ bs) here in
          let same : Some r.0 ≡ Some rest = sym (past_here (w ∷ ws) (b ∷ bs) r.0 r.1 (λ h. cc)) ∙ e in
          ([], behind_takes (w ∷ ws) (b ∷ bs) rest (r.1 ∙ same), refl)
      | inr lacking ↦
          let t = past_takes w ws bs rest (sym (past_later (w ∷ ws) b bs lacking) ∙ e) in
          let whole : b ∷ bs ≡ (b ∷ t.0) ++ ((w ∷ ws) ++ rest) = ap (λ (z : List ℕ). b ∷ z) t.1 in
          (b ∷ t.0, whole, and_from _ _ (ap not (begins_less (w ∷ ws) (b ∷ t.0) ((w ∷ ws) ++ rest) (ap (begins (w ∷ ws)) (sym whole) ∙ lacking))) t.2)
    ]

-- past the first place of a word the rest is found
pub past_again : (w : ℕ) (ws t rest : List ℕ) → NoBorder (w ∷ ws) → lacks (w ∷ ws) t ≡ true → past (w ∷ ws) (t ++ ((w ∷ ws) ++ rest)) ≡ Some rest
past_again w ws [] rest border h = past_here (w ∷ ws) ((w ∷ ws) ++ rest) rest (behind_again (w ∷ ws) rest) (λ e. cc)
past_again w ws (b ∷ t) rest border h =
    let both = and_parts (not (begins (w ∷ ws) (b ∷ t))) (lacks (w ∷ ws) t) h in
    past_later (w ∷ ws) b (t ++ ((w ∷ ws) ++ rest)) (border b t rest (not-true (begins (w ∷ ws) (b ∷ t)) both.0)) ∙ past_again w ws t rest border both.1

-- what does not begin with a word begins with no longer one
pub behind_longer : (u v bs : List ℕ) → begins u bs ≡ false → behind (u ++ v) bs ≡ None
behind_longer [] v bs e = absurd cc
behind_longer (w ∷ ws) v [] e = refl
behind_longer (w ∷ ws) v (b ∷ bs) e =
    elim (cases_Bool (eqb b w)) [
      | inl same ↦ rw same (behind_longer ws v bs (rw same at e))
      | inr other ↦ rw other refl
    ]

-- a word occurs nowhere before its first byte
pub lacks_after : (w : ℕ) (ws bs : List ℕ) → lacks (w ∷ ws) (after (is_other w) bs) ≡ lacks (w ∷ ws) bs
lacks_after w ws [] = refl
lacks_after w ws (b ∷ bs) =
    elim (cases_Bool (eqb b w)) [
      | inl same ↦ ap (lacks (w ∷ ws)) (after_here w b bs same)
      | inr other ↦ rw other (lacks_after w ws bs)
    ]
