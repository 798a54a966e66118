-- Leading characters of ASCII do not decide whether bytes are a text.
use Rattle.std.proofs.Common.{◌≡◌, ℕ, ◌<◌, Bool, true, ltb, leb, List, [], ◌∷◌, ◌++◌, take, drop, refl, sym, ap, ap₂, subst, ◌∙◌, arith}
use Rattle.std.specs.Prelude.{not, ◌&&◌, ◌||◌}
use Rattle.std.specs.List.{list_all}
use Rattle.std.specs.Str.{IsUtf8, chars, encode_utf8_all}
use Rattle.std.proofs.lemmas.Bool.{ltb-true, and_parts, and_from}
use Rattle.std.proofs.lemmas.Bool.Decides.{nat_tests}
use Rattle.std.proofs.lemmas.List.{take-append-drop}
use Rattle.std.proofs.lemmas.Str.{chars-encodes, encode_ascii}
use lib.Utf8.{scalar, scalars, low_scalar}
use Rattle.redl_grammar.specs.Characters.{is_character, is_plain_byte, IsText}
use Rattle.redl_markup.specs.Inside.Characters.{is_printed, is_low, is_plain_ascii}
use Rattle.redl_markup.proofs.Characters.{text_is_utf8, of_text, plain_low}
use Rattle.redl_markup.proofs.Utf8.{cut_ascii}

-- ---- a block

printed_passes : (b : ℕ) → is_printed b ≡ true → is_plain_ascii b ≡ true
unfolding is_plain_byte
printed_passes b h = grind (arith, nat_tests)

below : (b : ℕ) → is_low b ≡ true → ltb b 128 ≡ true
below b k = grind (arith, nat_tests)

low_passes : (b : ℕ) → is_plain_byte b ≡ true → is_low b ≡ true → is_plain_ascii b ≡ true
low_passes b h k = and_from (is_plain_byte b) (ltb b 128) h (below b k)

pub printed_ascii : (block : List ℕ) → list_all is_printed block ≡ true → list_all is_plain_ascii block ≡ true
printed_ascii [] h = refl
printed_ascii (b ∷ bs) h =
    let both = and_parts (is_printed b) (list_all is_printed bs) h in
    and_from (is_plain_ascii b) (list_all is_plain_ascii bs) (printed_passes b both.0) (printed_ascii bs both.1)

pub low_ascii : (block : List ℕ) → list_all is_plain_byte block ≡ true → list_all is_low block ≡ true → list_all is_plain_ascii block ≡ true
low_ascii [] h k = refl
low_ascii (b ∷ bs) h k =
    let plain = and_parts (is_plain_byte b) (list_all is_plain_byte bs) h in
    let low = and_parts (is_low b) (list_all is_low bs) k in
    and_from (is_plain_ascii b) (list_all is_plain_ascii bs) (low_passes b plain.0 low.0) (low_ascii bs plain.1 low.1)

-- ---- a text

-- one more character ahead
one_ahead : (b : ℕ) (more : List ℕ) → is_plain_ascii b ≡ true → IsText more → IsText (b ∷ more)
one_ahead b more p h =
    let both = and_parts (is_plain_byte b) (ltb b 128) p in
    let low = ltb-true b 128 both.1 in
    record {
      characters = b ∷ h.characters;
      each = and_from (is_character b) (list_all is_character h.characters) (plain_low b low both.0) h.each;
      whole = ap₂ (λ (x y : List ℕ). x ++ y) (sym (encode_ascii b low)) h.whole;
    }

-- and one fewer
one_behind : (b : ℕ) (more : List ℕ) → is_plain_ascii b ≡ true → IsText (b ∷ more) → IsText more
one_behind b more p h =
    let both = and_parts (is_plain_byte b) (ltb b 128) p in
    let low = ltb-true b 128 both.1 in
    let u = (cut_ascii [] b more low (text_is_utf8 (b ∷ more) h)).right in
    let whole : b ∷ more ≡ encode_utf8_all (b ∷ u.0) = ap₂ (λ (x y : List ℕ). x ++ y) (sym (encode_ascii b low)) (sym u.1.1) in
    let are : chars (b ∷ more) ≡ b ∷ u.0 = ap chars whole ∙ chars-encodes (b ∷ u.0) (and_from (scalar b) (scalars u.0) (low_scalar b (omega arith)) u.1.0) in
    record {
      characters = u.0;
      each = (and_parts (is_character b) (list_all is_character u.0) (sym (ap (list_all is_character) are) ∙ of_text (b ∷ more) h)).1;
      whole = sym u.1.1;
    }

all_ahead : (a more : List ℕ) → list_all is_plain_ascii a ≡ true → IsText more → IsText (a ++ more)
all_ahead [] more p h = h
all_ahead (b ∷ a) more p h =
    let both = and_parts (is_plain_ascii b) (list_all is_plain_ascii a) p in
    one_ahead b (a ++ more) both.0 (all_ahead a more both.1 h)

all_behind : (a more : List ℕ) → list_all is_plain_ascii a ≡ true → IsText (a ++ more) → IsText more
all_behind [] more p h = h
all_behind (b ∷ a) more p h =
    let both = and_parts (is_plain_ascii b) (list_all is_plain_ascii a) p in
    all_behind a more both.1 (one_behind b (a ++ more) both.0 h)

-- where the bytes are a block and the rest
whole_of : (bs block rest : List ℕ) → block ≡ take 64 bs → rest ≡ drop 64 bs → block ++ rest ≡ bs
whole_of bs block rest e f = ap₂ (λ (x y : List ℕ). x ++ y) e f ∙ take-append-drop 64 bs

pub text_ahead : (bs block rest : List ℕ) → block ≡ take 64 bs → rest ≡ drop 64 bs → list_all is_plain_ascii block ≡ true → IsText rest → IsText bs
text_ahead bs block rest e f p h = subst IsText (whole_of bs block rest e f) (all_ahead block rest p h)

pub text_behind : (bs block rest : List ℕ) → block ≡ take 64 bs → rest ≡ drop 64 bs → list_all is_plain_ascii block ≡ true → IsText bs → IsText rest
text_behind bs block rest e f p h = all_behind block rest p (subst IsText (sym (whole_of bs block rest e f)) h)
