-- An escaped text is safe in the text of an element and between quotes, and texts that come in pieces are escaped piece by piece.
use Rattle.std.proofs.Common.{◌≡◌, ℕ, List, [], ◌∷◌, ◌++◌, Bool, true, false, ◌||◌, not, ◌≤◌, ◌<◌, length, arith, refl, sym, ap, ◌∙◌, eqb, codes, if◌then◌else◌}
use Rattle.std.proofs.lemmas.List.Concat.{flat_map-append}
use Rattle.redl_reading.specs.Lists.{front, after}
use Rattle.redl_html.specs.Escaping.{is_control, replacement, byte_escaped, escaped, is_plain, is_safe}

-- ---- pieces

-- escaping goes part by part
pub escaped-append : (xs ys : List ℕ) → escaped (xs ++ ys) ≡ escaped xs ++ escaped ys
escaped-append xs ys = flat_map-append byte_escaped xs ys

-- ---- bytes that are written as they are

plain_byte : (b : ℕ) → is_plain b ≡ true → byte_escaped b ≡ b ∷ []
plain_byte b h = at (eqb b 38) (eqb b 60) (eqb b 62) (eqb b 34) (eqb b 39) (eqb b 13) (is_control b) refl refl refl refl refl refl refl h
  where
    at : (amp lt gt quot apos return control : Bool) → eqb b 38 ≡ amp → eqb b 60 ≡ lt → eqb b 62 ≡ gt → eqb b 34 ≡ quot → eqb b 39 ≡ apos → eqb b 13 ≡ return → is_control b ≡ control →
        not (amp || lt || gt || quot || apos || return || control) ≡ true → byte_escaped b ≡ b ∷ []
    at false false false false false false false e0 e1 e2 e3 e4 e5 e6 t = rw (e6, e0, e1, e2, e3, e4, e5) refl
    at amp lt gt quot apos return control e0 e1 e2 e3 e4 e5 e6 t = cc

pub escaped-plain : (bs : List ℕ) → escaped bs ≡ front is_plain bs ++ escaped (after is_plain bs)
escaped-plain [] = refl
escaped-plain (b ∷ bs) = by (is_plain b) refl (escaped-plain bs) where
  by : (t : Bool) → is_plain b ≡ t → escaped bs ≡ front is_plain bs ++ escaped (after is_plain bs)
      → escaped (b ∷ bs) ≡ front is_plain (b ∷ bs) ++ escaped (after is_plain (b ∷ bs))
  by true e h = ap (λ l. l ++ escaped bs) (plain_byte b e) ∙ ap (λ l. b ∷ l) h ∙ simp e
  by false e h = simp e

after_short : (p : ℕ → Bool) (bs : List ℕ) → length (after p bs) ≤ length bs
after_short p [] = omega arith
after_short p (b ∷ bs) = by (p b) (after_short p bs) where
  by : (t : Bool) → length (after p bs) ≤ length bs → length (if t then after p bs else b ∷ bs) ≤ length (b ∷ bs)
  by true h = omega arith
  by false h = omega arith

-- ---- the loop

pub escaped-next : (left : List ℕ) (b : ℕ) (bs : List ℕ) → left ≡ b ∷ bs → escaped left ≡ byte_escaped b ++ escaped bs
escaped-next left b bs e = ap escaped e

-- one byte, and then the bytes that are written as they are
pub shorter : (left : List ℕ) (b : ℕ) (bs rest : List ℕ) → left ≡ b ∷ bs → rest ≡ after is_plain bs → length rest < length left
shorter left b bs rest e r = rw (r, e) (omega (arith, after_short is_plain bs))

-- ---- safety

-- a byte that is not one of the five of markup
other_safe : (b : ℕ) (bs : List ℕ) → eqb b 38 ≡ false → eqb b 60 ≡ false → eqb b 62 ≡ false → eqb b 34 ≡ false → eqb b 39 ≡ false → is_safe bs ≡ true
    → is_safe ((if eqb b 13 then codes "&#13;" else if is_control b then replacement else b ∷ []) ++ bs) ≡ true
other_safe b bs amp lt gt quot apos h = at (eqb b 13) (is_control b)
  where
    at : (return control : Bool) → is_safe ((if return then codes "&#13;" else if control then replacement else b ∷ []) ++ bs) ≡ true
    at true control = h
    at false true = h
    at false false = rw (lt, gt, quot, apos, amp) h

byte_safe : (b : ℕ) (bs : List ℕ) → is_safe bs ≡ true → is_safe (byte_escaped b ++ bs) ≡ true
byte_safe b bs h = at (eqb b 38) (eqb b 60) (eqb b 62) (eqb b 34) (eqb b 39) refl refl refl refl refl
  where
    at : (amp lt gt quot apos : Bool) → eqb b 38 ≡ amp → eqb b 60 ≡ lt → eqb b 62 ≡ gt → eqb b 34 ≡ quot → eqb b 39 ≡ apos → is_safe (byte_escaped b ++ bs) ≡ true
    at true lt gt quot apos e0 e1 e2 e3 e4 = rw e0 h
    at false true gt quot apos e0 e1 e2 e3 e4 = rw (e0, e1) h
    at false false true quot apos e0 e1 e2 e3 e4 = rw (e0, e1, e2) h
    at false false false true apos e0 e1 e2 e3 e4 = rw (e0, e1, e2, e3) h
    at false false false false true e0 e1 e2 e3 e4 = rw (e0, e1, e2, e3, e4) h
    at false false false false false e0 e1 e2 e3 e4 = rw (e0, e1, e2, e3, e4) (other_safe b bs e0 e1 e2 e3 e4 h)

pub escaped_safe : (text : List ℕ) → is_safe (escaped text) ≡ true
escaped_safe [] = refl
escaped_safe (b ∷ bs) = byte_safe b (escaped bs) (escaped_safe bs)
