-- The words of a place are ASCII.
use Rattle.std.proofs.Common.{◌≡◌, ℕ, zero, suc, ◌+◌, ◌<◌, ◌/◌, ◌%◌, ◌==◌, ◌&&◌, nat_le, nat_lt, List, [], ◌∷◌, ◌++◌, Bool, true, false, codes, decimal, refl, arith, Option, Some, None, replicate, if◌then◌else◌}
use Rattle.std.proofs.lemmas.Bool.{and_parts, leb-true}
use Rattle.std.proofs.lemmas.List.Elements.{All-replicate}
use Rattle.std.proofs.lemmas.Str.{IsAscii-append, IsUtf8-from_ascii}
use Rattle.std.proofs.lemmas.Str.Ascii.{IsAscii-nil, IsAscii-from_all}
use Rattle.std.specs.Fmt.{digit_glyph, digits, digits_onto}
use Rattle.std.specs.Str.{IsAscii, IsUtf8}
use Rattle.redl_numerals.specs.Numerals.{roman, roman_digit, roman_text}
use Rattle.redl_numerals.specs.declared.format.Format.TheVariants.{Decimal, LowerRoman}
use Rattle.redl_places.specs.Texts.{place_text, sign_text}
use Rattle.redl_places.specs.declared.sign.NoteSign.{NoteSign}
use Rattle.redl_places.specs.declared.sign.NoteSign.TheVariants.{Own, Count}
use Rattle.redl_places.specs.declared.place.StoryPlace.{StoryPlace}
use Rattle.redl_places.specs.declared.place.StoryPlace.TheVariants.{Document, Header, Footer, Comment, TextBox, Footnote, Endnote}

-- ---- bytes

ascii-cons : (b : ℕ) (bs : List ℕ) → b < 128 → IsAscii bs → IsAscii (b ∷ bs)
ascii-cons b bs low h zero = low
ascii-cons b bs low h (suc i) = h i

abbrev all_low : List ℕ → Bool
all_low [] = true
all_low (b ∷ bs) = nat_le b 127 && all_low bs

-- a text that is known
ascii-known : (bs : List ℕ) → all_low bs ≡ true → IsAscii bs
ascii-known [] h = IsAscii-nil
ascii-known (b ∷ bs) h =
    let p = and_parts (nat_le b 127) (all_low bs) h in
    ascii-cons b bs (let low = leb-true b 127 p.0 in omega (arith, low)) (ascii-known bs p.1)

ascii-either : (b : Bool) (xs ys : List ℕ) → IsAscii xs → IsAscii ys → IsAscii (if b then xs else ys)
ascii-either true xs ys x y = x
ascii-either false xs ys x y = y

ascii-repeated : (n b : ℕ) → b < 128 → IsAscii (replicate n b)
ascii-repeated n b low = IsAscii-from_all (replicate n b) (All-replicate (λ c. c < 128) n b low)

-- ---- digits

glyph-low : (d : ℕ) → d < 10 → digit_glyph false d < 128
glyph-low d few = by (nat_lt d 10)
  where
    by : (small : Bool) → (if small then 48 + d else 87 + d) < 128
    by true = omega (arith, few)
    by false = omega (arith, few)

ascii-onto : (k n : ℕ) (acc : List ℕ) → IsAscii acc → IsAscii (digits_onto k 10 false n acc)
ascii-onto zero n acc h = h
ascii-onto (suc k) n acc h =
    let glyph = digit_glyph false (n % 10) in
    let more = ascii-cons glyph acc (glyph-low (n % 10) (omega arith)) h in
    ascii-either (n / 10 == 0) (glyph ∷ acc) (digits_onto k 10 false (n / 10) (glyph ∷ acc)) more (ascii-onto k (n / 10) (glyph ∷ acc) more)

ascii-decimal : (n : ℕ) → IsAscii (decimal n)
unfolding digits
ascii-decimal n = ascii-onto 64 n [] IsAscii-nil

-- ---- Roman numerals

module _ (one five ten : ℕ) (low_one : one < 128) (low_five : five < 128) (low_ten : ten < 128) where
  ascii-digit : (d : ℕ) → IsAscii (roman_digit one five ten d)
  ascii-digit d =
      let none = IsAscii-nil in
      let i = ascii-cons one [] low_one none in
      let ii = ascii-cons one (one ∷ []) low_one i in
      let iii = ascii-cons one (one ∷ one ∷ []) low_one ii in
      let v = ascii-cons five [] low_five none in
      let iv = ascii-cons one (five ∷ []) low_one v in
      let vi = ascii-cons five (one ∷ []) low_five i in
      let vii = ascii-cons five (one ∷ one ∷ []) low_five ii in
      let viii = ascii-cons five (one ∷ one ∷ one ∷ []) low_five iii in
      let ix = ascii-cons one (ten ∷ []) low_one (ascii-cons ten [] low_ten none) in
      ascii-either (d == 0) _ _ none
      (ascii-either (d == 1) _ _ i
      (ascii-either (d == 2) _ _ ii
      (ascii-either (d == 3) _ _ iii
      (ascii-either (d == 4) _ _ iv
      (ascii-either (d == 5) _ _ v
      (ascii-either (d == 6) _ _ vi
      (ascii-either (d == 7) _ _ vii
      (ascii-either (d == 8) _ _ viii ix))))))))

ascii-roman : (n : ℕ) → IsAscii (roman_text 32 n)
ascii-roman n =
    let hundreds = roman_digit 99 100 109 (n / 100 % 10) in
    let tens = roman_digit 120 108 99 (n / 10 % 10) in
    let units = roman_digit 105 118 120 (n % 10) in
    ascii-either (nat_le 1 n && nat_lt n 4000) (roman 32 n) (decimal n)
    (IsAscii-append (replicate (n / 1000) 109) (hundreds ++ (tens ++ units)) (ascii-repeated (n / 1000) 109 (omega arith))
    (IsAscii-append hundreds (tens ++ units) (ascii-digit 99 100 109 (omega arith) (omega arith) (omega arith) (n / 100 % 10))
    (IsAscii-append tens units (ascii-digit 120 108 99 (omega arith) (omega arith) (omega arith) (n / 10 % 10))
    (ascii-digit 105 118 120 (omega arith) (omega arith) (omega arith) (n % 10)))))
    (ascii-decimal n)

-- ---- places

ascii-footnote : (sign : Option NoteSign) → IsAscii (sign_text Decimal sign)
ascii-footnote None = IsAscii-nil
ascii-footnote (Some Own) = ascii-known (codes " *") refl
ascii-footnote (Some (Count n)) = IsAscii-append (codes " ") (decimal n) (ascii-known (codes " ") refl) (ascii-decimal n)

ascii-endnote : (sign : Option NoteSign) → IsAscii (sign_text LowerRoman sign)
ascii-endnote None = IsAscii-nil
ascii-endnote (Some Own) = ascii-known (codes " *") refl
ascii-endnote (Some (Count n)) = IsAscii-append (codes " ") (roman_text 32 n) (ascii-known (codes " ") refl) (ascii-roman n)

ascii-place : (place : StoryPlace) → IsAscii (place_text place)
ascii-place Document = ascii-known (codes "document") refl
ascii-place Header = ascii-known (codes "header") refl
ascii-place Footer = ascii-known (codes "footer") refl
ascii-place Comment = ascii-known (codes "comment") refl
ascii-place TextBox = ascii-known (codes "text box") refl
ascii-place (Footnote sign) = IsAscii-append (codes "footnote") (sign_text Decimal sign) (ascii-known (codes "footnote") refl) (ascii-footnote sign)
ascii-place (Endnote sign) = IsAscii-append (codes "endnote") (sign_text LowerRoman sign) (ascii-known (codes "endnote") refl) (ascii-endnote sign)

pub place-utf8 : (text : List ℕ) (place : StoryPlace) → text ≡ place_text place → IsUtf8 text
place-utf8 text place is = rw is (IsUtf8-from_ascii (place_text place) (ascii-place place))
