-- Characters with equal marks are one line.
use Rattle.std.proofs.Common.{◌≡◌, ◌≢◌, ℕ, List, [], ◌∷◌, ◌++◌, map, length, ◌≤◌, ◌<◌, arith, Bool, true, false, ◌&&◌, ◌||◌, not, codes, bytes_eq, Option, Some, refl, sym, ap, ◌∙◌, append_assoc, eqb, if◌then◌else◌}
use Rattle.std.proofs.lemmas.Bool.{and_from, and_parts, eqb-true, ne_eqb}
use Rattle.std.proofs.lemmas.Bool.Decides.{nat_tests}
use Rattle.std.specs.List.{list_all}
use Rattle.redl_shown.specs.Shown.{shown}
use Rattle.std.proofs.lemmas.List.{nil_from_length}
use Rattle.std.proofs.lemmas.List.Concat.{flat_map-append}
use Rattle.std.proofs.lemmas.Slice.Eq.{bytes_eq-Decides}
use Rattle.redl_reading.specs.Lists.{front, after}
use Rattle.redl_bare.specs.Marks.{Mark, Marks, sign_place, same_mark, same_marks}
use Rattle.redl_bare.specs.Units.{byte, in_marks}
use Rattle.redl_bare.specs.BareText.{byte_escaped, escaped, goes_on, begun, closing, marks_text, text_begin, lines, line_after_all}
use Rattle.redl_marks.specs.declared.sign.Sign.{Sign}
use Rattle.redl_marks.specs.declared.sign.Sign.TheVariants.{Inserted, Deleted, MovedTo, MovedFrom, Formatted}
use Rattle.redl_bare.specs.Inside.Escapes.{is_plain, is_clean, is_empty}

-- ---- marks are the same as themselves

bytes_same : (xs : List ℕ) → bytes_eq xs xs ≡ true
bytes_same xs = (bytes_eq-Decides xs xs).1 refl

mark_same : (mark : Mark) → same_mark mark mark ≡ true
mark_same mark =
    and_from (eqb (sign_place mark.sign) (sign_place mark.sign)) (bytes_eq mark.stamp.author mark.stamp.author && bytes_eq mark.stamp.minute mark.stamp.minute) (sign_same mark.sign)
    (and_from (bytes_eq mark.stamp.author mark.stamp.author) (bytes_eq mark.stamp.minute mark.stamp.minute) (bytes_same mark.stamp.author) (bytes_same mark.stamp.minute))
  where
    sign_same : (sign : Sign) → eqb (sign_place sign) (sign_place sign) ≡ true
    sign_same Inserted = refl
    sign_same Deleted = refl
    sign_same MovedTo = refl
    sign_same MovedFrom = refl
    sign_same Formatted = refl

pub marks_same : (marks : Marks) → same_marks marks marks ≡ true
marks_same [] = refl
marks_same (mark ∷ marks) = and_from (same_mark mark mark) (same_marks marks marks) (mark_same mark) (marks_same marks)

-- ---- characters in a line that is open with their marks

going : (line : Option Marks) (marks : Marks) (bs : List ℕ) → goes_on line marks ≡ true
    → (lines line (in_marks marks (map byte bs)) ≡ escaped bs) × (line_after_all line (in_marks marks (map byte bs)) ≡ line)
going line marks [] g = (refl, refl)
going line marks (b ∷ bs) g =
    let later = going line marks bs g in (
      ap (λ o. ((if o then [] else closing line ++ (marks_text marks ++ codes "|")) ++ byte_escaped b) ++ lines (if o then line else Some marks) (in_marks marks (map byte bs))) g
          ∙ ap (λ l. byte_escaped b ++ l) later.0,
      ap (λ o. line_after_all (if o then line else Some marks) (in_marks marks (map byte bs))) g ∙ later.1,
    )

begun_goes_on : (line : Option Marks) (marks : Marks) → goes_on (begun line marks) marks ≡ true
begun_goes_on line marks = at (goes_on line marks) refl
  where
    at : (b : Bool) → goes_on line marks ≡ b → goes_on (if b then line else Some marks) marks ≡ true
    at true e = e
    at false e = marks_same marks

-- characters with the same marks, of which there is one
pub characters_line : (line : Option Marks) (marks : Marks) (bs : List ℕ) → is_empty bs ≡ false
    → (lines line (in_marks marks (map byte bs)) ≡ text_begin line marks ++ escaped bs) × (line_after_all line (in_marks marks (map byte bs)) ≡ begun line marks)
characters_line line marks [] e = absurd cc
characters_line line marks (b ∷ bs) e =
    let later = going (begun line marks) marks bs (begun_goes_on line marks) in (
      ap (λ l. (text_begin line marks ++ byte_escaped b) ++ l) later.0 ∙ append_assoc (text_begin line marks) (byte_escaped b) (escaped bs),
      later.1,
    )

-- ---- bytes

pub escaped-append : (xs ys : List ℕ) → escaped (xs ++ ys) ≡ escaped xs ++ escaped ys
escaped-append xs ys = flat_map-append byte_escaped xs ys

byte_plain : (b : ℕ) → is_plain b ≡ true → byte_escaped b ≡ b ∷ []
byte_plain b h = at (eqb b 92) (eqb b 9) (eqb b 10) (eqb b 13) refl refl refl refl h
  where
    at : (slash tab line return : Bool) → eqb b 92 ≡ slash → eqb b 9 ≡ tab → eqb b 10 ≡ line → eqb b 13 ≡ return → not (slash || (tab || (line || return))) ≡ true
        → byte_escaped b ≡ b ∷ []
    at false false false false e0 e1 e2 e3 t = rw (e0, e1, e2, e3) refl
    at slash tab line return e0 e1 e2 e3 t = cc

-- bytes that are written as they are
pub escaped-plain : (bs : List ℕ) → escaped bs ≡ front is_plain bs ++ escaped (after is_plain bs)
escaped-plain [] = refl
escaped-plain (b ∷ bs) = by (is_plain b) refl (escaped-plain bs) where
  by : (t : Bool) → is_plain b ≡ t → escaped bs ≡ front is_plain bs ++ escaped (after is_plain bs)
      → escaped (b ∷ bs) ≡ front is_plain (b ∷ bs) ++ escaped (after is_plain (b ∷ bs))
  by true e h = ap (λ l. l ++ escaped bs) (byte_plain b e) ∙ ap (λ l. b ∷ l) h ∙ simp e
  by false e h = simp e

after_short : (p : ℕ → Bool) (bs : List ℕ) → length (after p bs) ≤ length bs
after_short p [] = omega arith
after_short p (b ∷ bs) = by (p b) (after_short p bs) where
  by : (t : Bool) → length (after p bs) ≤ length bs → length (if t then after p bs else b ∷ bs) ≤ length (b ∷ bs)
  by true h = omega arith
  by false h = omega arith

pub plain_shorter : (left : List ℕ) (b : ℕ) (bs rest : List ℕ) → left ≡ b ∷ bs → rest ≡ after is_plain bs → length rest < length left
plain_shorter left b bs rest e r = rw (r, e) (omega (arith, after_short is_plain bs))

-- one byte, and then the bytes that are written as they are
pub escaped-step : (left : List ℕ) (b : ℕ) (bs rest : List ℕ) → left ≡ b ∷ bs → rest ≡ after is_plain bs
    → escaped left ≡ byte_escaped b ++ (front is_plain bs ++ escaped rest)
escaped-step left b bs rest e r =
    ap escaped e ∙ ap (λ l. byte_escaped b ++ l) (escaped-plain bs ∙ ap (λ l. front is_plain bs ++ escaped l) (sym r))

-- a text that begins with a piece
pub escaped-piece : (whole piece rest : List ℕ) → whole ≡ piece ++ rest → escaped whole ≡ escaped piece ++ escaped rest
escaped-piece whole piece rest e = ap escaped e ∙ escaped-append piece rest

-- ---- bytes that show themselves and are written as they are

clean_parts : (b : ℕ) → is_clean b ≡ true → (is_plain b ≡ true) × (eqb b 60 ≡ false) × (eqb b 38 ≡ false)
clean_parts b h =
    let low : 14 ≤ b = grind (arith, nat_tests, h) in
    let amp : b ≢ 38 = grind (arith, nat_tests, h) in
    let less : b ≢ 60 = grind (arith, nat_tests, h) in
    let slash : b ≢ 92 = grind (arith, nat_tests, h) in
    let plain : is_plain b ≡ true = rw (ne_eqb b 92 slash, ne_eqb b 9 (λ e. omega (arith, e, low)), ne_eqb b 10 (λ e. omega (arith, e, low)), ne_eqb b 13 (λ e. omega (arith, e, low))) refl in
    (plain, ne_eqb b 60 less, ne_eqb b 38 amp)

pub clean_escaped : (bs : List ℕ) → list_all is_clean bs ≡ true → escaped bs ≡ bs
clean_escaped [] h = refl
clean_escaped (b ∷ bs) h =
    let both = and_parts (is_clean b) (list_all is_clean bs) h in
    ap (λ l. l ++ escaped bs) (byte_plain b (clean_parts b both.0).0) ∙ ap (λ l. b ∷ l) (clean_escaped bs both.1)

byte_shown : (b : ℕ) (bs : List ℕ) → eqb b 60 ≡ false → eqb b 38 ≡ false → shown (b ∷ bs) ≡ b ∷ shown bs
byte_shown b bs e f = simp (e, f)

pub clean_shown : (bs : List ℕ) → list_all is_clean bs ≡ true → shown bs ≡ bs
clean_shown [] h = refl
clean_shown (b ∷ bs) h =
    let both = and_parts (is_clean b) (list_all is_clean bs) h in
    let parts = clean_parts b both.0 in
    byte_shown b bs parts.1 parts.2 ∙ ap (λ l. b ∷ l) (clean_shown bs both.1)

-- ---- the line of a member

pub own_line : (name rest : List ℕ) → 43 ∷ (name ++ (9 ∷ rest)) ≡ (43 ∷ (name ++ (9 ∷ []))) ++ rest
own_line name rest = ap (λ l. 43 ∷ l) (sym (append_assoc name (9 ∷ []) rest))

-- ---- a list by its length

pub none_by_length : (xs : List ℕ) (b : Bool) → b ≡ eqb (length xs) 0 → b ≡ true → xs ≡ []
none_by_length xs b e f = nil_from_length xs (eqb-true (length xs) 0 (sym e ∙ f))

pub some_by_length : (xs : List ℕ) (b : Bool) → b ≡ eqb (length xs) 0 → b ≡ false → is_empty xs ≡ false
some_by_length [] b e f = absurd cc
some_by_length (x ∷ xs) b e f = refl
