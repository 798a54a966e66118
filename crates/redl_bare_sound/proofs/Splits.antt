-- Characters and texts can be told from what follows them.
use Rattle.std.proofs.Common.{◌≡◌, ℕ, List, [], ◌∷◌, ◌++◌, Bool, true, false, refl, sym, ap, ◌∙◌, append_assoc, eqb, if◌then◌else◌, arith}
use Rattle.std.proofs.lemmas.Bool.{eqb-true, eqb-false}
use Rattle.redl_bare.specs.BareText.{byte_escaped, escaped}

abbrev pub head_of : List ℕ → ℕ
head_of [] = 0
head_of (x ∷ xs) = x

abbrev pub tail_of : List ℕ → List ℕ
tail_of [] = []
tail_of (x ∷ xs) = xs

-- two texts with the same beginning
pub cancel : (xs ys zs : List ℕ) → xs ++ ys ≡ xs ++ zs → ys ≡ zs
cancel [] ys zs e = e
cancel (x ∷ xs) ys zs e = cancel xs ys zs (ap tail_of e)

-- ---- a byte

-- what a letter after a backslash stands for
abbrev meant : ℕ → ℕ
meant letter = if eqb letter 92 then 92 else if eqb letter 116 then 9 else if eqb letter 110 then 10 else 13

pub data Shape (b : ℕ) : Type 0 where
  signed : (letter : ℕ) → byte_escaped b ≡ 92 ∷ letter ∷ [] → meant letter ≡ b → (letter ≡ 91 → ⊥) → Shape b
  itself : byte_escaped b ≡ b ∷ [] → (b ≡ 92 → ⊥) → (b ≡ 9 → ⊥) → (b ≡ 10 → ⊥) → Shape b

pub shape_of : (b : ℕ) → Shape b
shape_of b = at (eqb b 92) (eqb b 9) (eqb b 10) (eqb b 13) refl refl refl refl
  where
    at : (slash tab line return : Bool) → eqb b 92 ≡ slash → eqb b 9 ≡ tab → eqb b 10 ≡ line → eqb b 13 ≡ return → Shape b
    at true tab line return e0 e1 e2 e3 = signed 92 (rw e0 refl) (sym (eqb-true b 92 e0)) (λ h. absurd (omega arith))
    at false true line return e0 e1 e2 e3 = signed 116 (rw (e0, e1) refl) (sym (eqb-true b 9 e1)) (λ h. absurd (omega arith))
    at false false true return e0 e1 e2 e3 = signed 110 (rw (e0, e1, e2) refl) (sym (eqb-true b 10 e2)) (λ h. absurd (omega arith))
    at false false false true e0 e1 e2 e3 = signed 114 (rw (e0, e1, e2, e3) refl) (sym (eqb-true b 13 e3)) (λ h. absurd (omega arith))
    at false false false false e0 e1 e2 e3 = itself (rw (e0, e1, e2, e3) refl) (eqb-false b 92 e0) (eqb-false b 9 e1) (eqb-false b 10 e2)

-- what follows a byte that is written
written : (b : ℕ) (w X Y : List ℕ) → byte_escaped b ≡ w → byte_escaped b ++ X ≡ Y → w ++ X ≡ Y
written b w X Y e h = ap (λ l. l ++ X) (sym e) ∙ h

both : (a b : ℕ) (v w X Y : List ℕ) → byte_escaped a ≡ v → byte_escaped b ≡ w → byte_escaped a ++ X ≡ byte_escaped b ++ Y → v ++ X ≡ w ++ Y
both a b v w X Y e f h = written a v X (w ++ Y) e (h ∙ ap (λ l. l ++ Y) f)

pub byte_split : (a b : ℕ) (X Y : List ℕ) → byte_escaped a ++ X ≡ byte_escaped b ++ Y → (a ≡ b) × (X ≡ Y)
byte_split a b X Y h = at (shape_of a) (shape_of b)
  where
    at : Shape a → Shape b → (a ≡ b) × (X ≡ Y)
    at (signed l e m n) (signed k f p q) =
        let both_of = both a b (92 ∷ l ∷ []) (92 ∷ k ∷ []) X Y e f h in
        let letter : l ≡ k = ap (λ s. head_of (tail_of s)) both_of in
        (sym m ∙ ap (λ c. meant c) letter ∙ p, ap (λ s. tail_of (tail_of s)) both_of)
    at (signed l e m n) (itself f p q r) = absurd (p (sym (ap head_of (both a b (92 ∷ l ∷ []) (b ∷ []) X Y e f h))))
    at (itself e m n o) (signed k f p q) = absurd (m (ap head_of (both a b (a ∷ []) (92 ∷ k ∷ []) X Y e f h)))
    at (itself e m n o) (itself f p q r) =
        let both_of = both a b (a ∷ []) (b ∷ []) X Y e f h in
        (ap head_of both_of, ap tail_of both_of)

-- no byte is written with a tab or a newline first
byte_no_tab : (b : ℕ) (X Y : List ℕ) → byte_escaped b ++ X ≡ 9 ∷ Y → ⊥
byte_no_tab b X Y h = at (shape_of b)
  where
    at : Shape b → ⊥
    at (signed l e p q) = eqb-false 92 9 refl (ap head_of (written b (92 ∷ l ∷ []) X (9 ∷ Y) e h))
    at (itself e p q r) = q (ap head_of (written b (b ∷ []) X (9 ∷ Y) e h))

pub byte_no_line : (b : ℕ) (X Y : List ℕ) → byte_escaped b ++ X ≡ 10 ∷ Y → ⊥
byte_no_line b X Y h = at (shape_of b)
  where
    at : Shape b → ⊥
    at (signed l e p q) = eqb-false 92 10 refl (ap head_of (written b (92 ∷ l ∷ []) X (10 ∷ Y) e h))
    at (itself e p q r) = r (ap head_of (written b (b ∷ []) X (10 ∷ Y) e h))

-- ---- an escaped text before a tab or a newline

pub field_split : (end : ℕ) → ((b : ℕ) (X Y : List ℕ) → byte_escaped b ++ X ≡ end ∷ Y → ⊥) → (xs ys X Y : List ℕ)
    → escaped xs ++ (end ∷ X) ≡ escaped ys ++ (end ∷ Y) → (xs ≡ ys) × (X ≡ Y)
field_split end never [] [] X Y h = (refl, ap tail_of h)
field_split end never [] (y ∷ ys) X Y h = absurd (never y (escaped ys ++ (end ∷ Y)) X (sym (append_assoc (byte_escaped y) (escaped ys) (end ∷ Y)) ∙ sym h))
field_split end never (x ∷ xs) [] X Y h = absurd (never x (escaped xs ++ (end ∷ X)) Y (sym (append_assoc (byte_escaped x) (escaped xs) (end ∷ X)) ∙ h))
field_split end never (x ∷ xs) (y ∷ ys) X Y h =
    let first = byte_split x y (escaped xs ++ (end ∷ X)) (escaped ys ++ (end ∷ Y))
    (sym (append_assoc (byte_escaped x) (escaped xs) (end ∷ X)) ∙ h ∙ append_assoc (byte_escaped y) (escaped ys) (end ∷ Y)) in
    let later = field_split end never xs ys X Y first.1 in
    (ap (λ b. b ∷ xs) first.0 ∙ ap (λ l. y ∷ l) later.0, later.1)

pub before_tab : (xs ys X Y : List ℕ) → escaped xs ++ (9 ∷ X) ≡ escaped ys ++ (9 ∷ Y) → (xs ≡ ys) × (X ≡ Y)
before_tab xs ys X Y h = field_split 9 byte_no_tab xs ys X Y h

pub before_line : (xs ys X Y : List ℕ) → escaped xs ++ (10 ∷ X) ≡ escaped ys ++ (10 ∷ Y) → (xs ≡ ys) × (X ≡ Y)
before_line xs ys X Y h = field_split 10 byte_no_line xs ys X Y h
