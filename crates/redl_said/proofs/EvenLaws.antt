-- Bytes that are kept as they are: by a line, by a place in a line, and by the beginning of a text.
use Rattle.std.proofs.Common.{◌≡◌, ◌<◌, ◌≤◌, ◌+◌, ◌-◌, ◌&&◌, ◌||◌, ◌==◌, ℕ, zero, suc, Bool, true, false, List, [], ◌∷◌, ◌++◌, Some, length, refl, sym, ap, ◌∙◌, arith, append_assoc, length-append, eqb-true}
use Rattle.std.proofs.Math.Dec.{eqb-suc-zero}
use Rattle.std.proofs.lemmas.Bool.{and_parts}
use Rattle.std.proofs.lemmas.List.{append-nil}
use Rattle.std.specs.Prelude.{not, if◌then◌else◌}
use Rattle.redl_said.specs.Lines.{Drawn, along, characters_in, drawn, ends_white, in_line, passed, spaced}
use Rattle.redl_said.specs.Phrases.{Kept, begun, even_from, fits, heard, heard_byte, is_inner, is_white, paused}
use Rattle.redl_said.specs.Ears.{heard-more}
use Rattle.redl_said.specs.declared.line.LinePlace.{LinePlace}

-- ---- one byte

-- four questions to which the answer is no
none-of : (x a b c : Bool) → not (x || a || b || c) ≡ true → (x ≡ false) × (a ≡ false) × (b ≡ false) × (c ≡ false)
none-of true a b c h = cc
none-of false true b c h = cc
none-of false false true c h = cc
none-of false false false true h = cc
none-of false false false false h = (refl, refl, refl, refl)

neither : (space s i : Bool) → (space && (s || i)) ≡ false → ((space && s) ≡ false) × ((space && i) ≡ false)
neither true true i h = cc
neither true false true h = cc
neither true false false h = (refl, refl)
neither false s i h = (refl, refl)

space-false : (space s : Bool) → s ≡ true → (space && s) ≡ false → space ≡ false
space-false true s is h = cc
space-false false s is h = refl

only : (s : Bool) → (s || false || false || false) ≡ s
only true = refl
only false = refl

-- no white space but the space
fits-white : (space : Bool) (b : ℕ) → fits space b ≡ true → is_white b ≡ (b == 32)
fits-white space b h =
    let no = none-of (space && (b == 32 || is_inner b)) (b == 9) (b == 10) (b == 13) h in
    rw (no.1, no.2, no.3) (only (b == 32))

-- no second space, and no inner byte after a space
fits-space : (space : Bool) (b : ℕ) → fits space b ≡ true → ((space && (b == 32)) ≡ false) × ((space && is_inner b) ≡ false)
fits-space space b h =
    neither space (b == 32) (is_inner b) (none-of (space && (b == 32 || is_inner b)) (b == 9) (b == 10) (b == 13) h).0

fits-line : (space : Bool) (b : ℕ) → fits space b ≡ true → in_line space b ≡ b ∷ []
fits-line space b h = by (b == 32) refl
  where
    by : (s : Bool) → (b == 32) ≡ s → in_line space b ≡ b ∷ []
    by true is =
        rw (fits-white space b h, is, space-false space (b == 32) is (fits-space space b h).0) (ap (λ (n : ℕ). n ∷ []) (sym (eqb-true b 32 is)))
    by false is = rw (fits-white space b h, is) refl

-- ---- a line

pub even-parts : (even space : Bool) (bytes : List ℕ) (last : Bool) → even_from even space bytes ≡ Some last → (even ≡ true) × (spaced space bytes ≡ bytes) × (ends_white space bytes ≡ last)
even-parts true space [] last h = (refl, refl, cc)
even-parts false space [] last h = cc
even-parts even space (b ∷ bs) last h =
    let later = even-parts (even && fits space b) (b == 32) bs last h in
    let both = and_parts even (fits space b) later.0 in
    let white = fits-white space b both.1 in
    (both.0, rw (fits-line space b both.1, white, later.1) refl, rw white later.2)

pub drawn-even : (line : Drawn) (bytes : List ℕ) (last : Bool) → even_from true line.gap bytes ≡ Some last → drawn line bytes ≡ record { text = line.text ++ bytes; gap = last }
drawn-even line bytes last h =
    let parts = even-parts true line.gap bytes last h in
    rw (parts.1, parts.2) refl

-- ---- a place

along-spaced : (left : ℕ) (gap : Bool) (bytes : List ℕ) → along (record { left = left; gap = gap }) bytes ≡ record { left = left - length (spaced gap bytes); gap = ends_white gap bytes }
unfolding passed
along-spaced left gap [] =
    let none : left ≡ left - 0 = omega arith in
    ap (λ (n : ℕ). record { left = n; gap = gap }) none
along-spaced left gap (b ∷ bs) =
    let count : (left - length (in_line gap b)) - length (spaced (is_white b) bs) ≡ left - length (in_line gap b ++ spaced (is_white b) bs) = omega (arith, length-append (in_line gap b) (spaced (is_white b) bs)) in
    along-spaced (left - length (in_line gap b)) (is_white b) bs
    ∙ ap (λ (n : ℕ). record { left = n; gap = ends_white (is_white b) bs }) count

pub along-even : (place : LinePlace) (bytes : List ℕ) (last : Bool) → even_from true place.gap bytes ≡ Some last → along place bytes ≡ record { left = place.left - length bytes; gap = last }
along-even place bytes last h =
    let parts = even-parts true place.gap bytes last h in
    along-spaced place.left place.gap bytes ∙ rw (parts.1, parts.2) refl

-- ---- the beginning of a text

positive : (n : ℕ) → 0 < n → (n == 0) ≡ false
positive zero h = absurd (omega (arith, h))
positive (suc n) h = eqb-suc-zero n

-- a byte that fits is one character more, or belongs to the last one
heard-fit : (text : List ℕ) (room : ℕ) (space : Bool) (b : ℕ) → fits space b ≡ true → 0 < room
    → heard_byte (record { text = text; room = room; gap = space; over = false }) b
    ≡ record { text = text ++ b ∷ []; room = if is_inner b then room else room - 1; gap = b == 32; over = false }
unfolding heard_byte paused begun
heard-fit text room space b h some = by (b == 32) (is_inner b) refl refl
  where
    kept : Kept
    kept = record { text = text; room = room; gap = space; over = false }

    white : is_white b ≡ (b == 32)
    white = fits-white space b h

    by : (s i : Bool) → (b == 32) ≡ s → is_inner b ≡ i → heard_byte kept b ≡ record { text = text ++ b ∷ []; room = if is_inner b then room else room - 1; gap = b == 32; over = false }
    by true i is inner =
        let outer : is_inner b ≡ false = ap is_inner (eqb-true b 32 is) in
        rw (white, is, space-false space (b == 32) is (fits-space space b h).0, positive room some, outer)
        (ap (λ (n : ℕ). record { text = text ++ n ∷ []; room = room - 1; gap = true; over = false }) (sym (eqb-true b 32 is)))
    by false true is inner = rw (white, is, inner, space-false space (is_inner b) inner (fits-space space b h).1) refl
    by false false is inner = rw (white, is, inner, positive room some) refl

-- a byte that fits before others
heard-rest : (text : List ℕ) (room : ℕ) (b : ℕ) (bs : List ℕ) (last inner : Bool)
    → ((r : ℕ) → length bs ≤ r → heard (record { text = text ++ b ∷ []; room = r; gap = b == 32; over = false }) bs
    ≡ record { text = (text ++ b ∷ []) ++ bs; room = r - characters_in bs; gap = last; over = false })
    → length (b ∷ bs) ≤ room → heard (record { text = text ++ b ∷ []; room = if inner then room else room - 1; gap = b == 32; over = false }) bs
    ≡ record { text = text ++ b ∷ bs; room = room - (if inner then characters_in bs else characters_in bs + 1); gap = last; over = false }
heard-rest text room b bs last true later within =
    later room (omega (arith, within))
    ∙ ap (λ (t : List ℕ). record { text = t; room = room - characters_in bs; gap = last; over = false }) (append_assoc text (b ∷ []) bs)
heard-rest text room b bs last false later within =
    let count : (room - 1) - characters_in bs ≡ room - (characters_in bs + 1) = omega arith in
    later (room - 1) (omega (arith, within))
    ∙ ap (λ (t : List ℕ). record { text = t; room = (room - 1) - characters_in bs; gap = last; over = false }) (append_assoc text (b ∷ []) bs)
    ∙ ap (λ (r : ℕ). record { text = text ++ b ∷ bs; room = r; gap = last; over = false }) count

heard-even : (text : List ℕ) (room : ℕ) (even space : Bool) (bytes : List ℕ) (last : Bool) → even_from even space bytes ≡ Some last → length bytes ≤ room
    → heard (record { text = text; room = room; gap = space; over = false }) bytes ≡ record { text = text ++ bytes; room = room - characters_in bytes; gap = last; over = false }
heard-even text room true space [] last h within =
    let none : room ≡ room - 0 = omega arith in
    let same : space ≡ last = cc in
    rw (append-nil text, ← none, same) refl
heard-even text room false space [] last h within = cc
heard-even text room even space (b ∷ bs) last h within =
    let fit = (and_parts even (fits space b) (even-parts (even && fits space b) (b == 32) bs last h).0).1 in
    ap (λ (kept : Kept). heard kept bs) (heard-fit text room space b fit (omega (arith, within)))
    ∙ heard-rest text room b bs last (is_inner b) (λ (r : ℕ) (fewer : length bs ≤ r). heard-even (text ++ b ∷ []) r (even && fits space b) (b == 32) bs last h fewer) within

-- what follows bytes that were heard at once
pub heard-at-once : (old new : Kept) (front rest bytes : List ℕ) (last : Bool) → front ++ rest ≡ bytes → old.over ≡ false → even_from true old.gap front ≡ Some last → length front ≤ old.room
    → new ≡ record { text = old.text ++ front; room = old.room - characters_in front; gap = last; over = old.over } → heard new rest ≡ heard old bytes
heard-at-once old new front rest bytes last whole fresh even within is =
    let same : old ≡ record { text = old.text; room = old.room; gap = old.gap; over = false } = rw (← fresh) refl in
    let at_once : heard old front ≡ new =
    ap (λ (kept : Kept). heard kept front) same ∙ heard-even old.text old.room true old.gap front last even within
    ∙ ap (λ (o : Bool). record { text = old.text ++ front; room = old.room - characters_in front; gap = last; over = o }) (sym fresh) ∙ sym is in
    ap (λ (kept : Kept). heard kept rest) (sym at_once) ∙ heard-more old front rest ∙ ap (heard old) whole
