-- What a value is read as begins with its first byte where that stands for itself; so no value of a tail is the name of an author if
-- no name begins after its quotes, but after those of an `author`.
use Rattle.std.proofs.Common.{◌≡◌, ◌≢◌, ◌∙◌, refl, sym, ap, subst, ℕ, zero, suc, ◌≤◌, ◌+◌, ◌/◌, ◌==◌, cond, ltb, append_assoc, ◌⊎◌, not, List, [], ◌∷◌, ◌++◌, length, eqb, arith, inl, inr, Bool, true, false, true≢false, append-nil, codes, bytes_eq, Option, Some, None}
use Rattle.std.specs.Prelude.{encode_utf8, drop, nat_eq, take, ◌-◌, if◌then◌else◌}
use Rattle.std.specs.List.{ends_with, list_all}
use lib.Pointwise.{pointwise}
use lib.Utf8.{encode, next}
use Rattle.std.proofs.lemmas.Bool.{eq-eqb, eqb-true, cases_Bool, and_from, and_parts}
use Rattle.std.proofs.lemmas.List.{take-append-drop}
use Rattle.std.proofs.lemmas.List.Folds.{list_all-append}
use Rattle.std.specs.Str.{encode_utf8_all}
use Rattle.std.proofs.lemmas.Bool.Decides.{nat_tests}
use Rattle.redl_grammar.specs.Characters.{is_name_character, is_name_start, is_space}
use Rattle.redl_grammar.specs.Names.{IsWord, Name, may_follow, may_start, name_text as qualified_text}
use Rattle.redl_grammar.specs.ScanTags.{attribute_in}
use Rattle.redl_grammar.specs.Tails.{Attribute, IsAttribute, IsQuote, attribute_then}
use Rattle.redl_grammar.proofs.Attributes.{first_takes}
use Rattle.redl_reading.specs.Lists.{front, after, begins, is_other}
use Rattle.redl_reading.proofs.Runs.{front-after, front_passes}
use Rattle.redl_markup.specs.Attributes.{attributes_by, attributes_from, attributes_of}
use Rattle.redl_markup.specs.Decoding.{decoded_value, is_literal}
use Rattle.redl_left.specs.declared.fact.Fact.TheVariants as fact
use Rattle.redl_left.specs.Finds.{Find, Table, found_among, found_name, found_names, found_told, is_author}
use Rattle.redl_left.specs.Fronts.{back, BeginsNone, NamesAuthor, Passes, QuotesPass}
use Rattle.redl_left.proofs.NameLaws.{if_none, no_author}

-- ---- the first byte

blank_is_space : is_space 32 ≡ true
unfolding is_space
blank_is_space = refl

literal_is_no_space : (b : ℕ) → is_literal b ≡ true → eqb b 32 ≡ false → is_space b ≡ false
unfolding is_space
literal_is_no_space b h other = grind (arith, nat_tests)

decoded-front : (b : ℕ) (bs : List ℕ) → is_literal b ≡ true → decoded_value (b ∷ bs) ≡ b ∷ decoded_value bs
decoded-front b bs h =
    let no_sign : eqb b 38 ≡ false = grind (arith, nat_tests) in
    let no_return : eqb b 13 ≡ false = grind (arith, nat_tests) in
    elim (cases_Bool (eqb b 32)) [
      | inl blank ↦ rw (eqb-true b 32 blank, blank_is_space) refl
      | inr other ↦ rw (no_sign, no_return, literal_is_no_space b h other) refl
    ]

-- ---- a value

-- what begins a text begins what is before its rest
begins-front : (table : Table) (value rest : List ℕ) → BeginsNone table (value ++ rest) → BeginsNone table value
begins-front table [] rest h = tt
begins-front table (b ∷ value) rest h = h

read_none : (table : Table) (value : List ℕ) → BeginsNone table value → is_author table (decoded_value value) ≡ false
read_none table [] h = refl
read_none table (b ∷ bs) h = ap (is_author table) (decoded-front b bs h.0) ∙ no_author table (b ∷ decoded_value bs) (h.1 (decoded_value bs))

-- ---- the last bytes first

pub back-append : (xs ys before : List ℕ) → back (xs ++ ys) before ≡ back ys (back xs before)
back-append [] ys before = refl
back-append (x ∷ xs) ys before = back-append xs ys (x ∷ before)

back-onto : (xs before : List ℕ) → back xs before ≡ back xs [] ++ before
back-onto [] before = refl
back-onto (x ∷ xs) before =
    back-onto xs (x ∷ before) ∙ sym (ap (λ (t : List ℕ). t ++ before) (back-onto xs (x ∷ [])) ∙ append_assoc (back xs []) (x ∷ []) before)

back-back : (xs ys zs : List ℕ) → back (back xs ys) zs ≡ back ys (xs ++ zs)
back-back [] ys zs = refl
back-back (x ∷ xs) ys zs = back-back xs (x ∷ ys) zs

back_all : (p : ℕ → Bool) (xs before : List ℕ) → list_all p xs ≡ true → list_all p before ≡ true → list_all p (back xs before) ≡ true
back_all p [] before all more = more
back_all p (x ∷ xs) before all more =
    let both = and_parts (p x) (list_all p xs) all in
    back_all p xs (x ∷ before) both.1 (and_from (p x) (list_all p before) both.0 more)

-- the last of bytes that pass a test passes it
record Last (p : ℕ → Bool) (t : List ℕ) : Type 0 where
  head : ℕ
  rest : List ℕ
  whole : t ≡ head ∷ rest
  passes : p head ≡ true

last_of : (p : ℕ → Bool) (x : ℕ) (xs before : List ℕ) → list_all p (x ∷ xs) ≡ true → Last p (back xs (x ∷ before))
last_of p x [] before all = record { head = x; rest = before; whole = refl; passes = (and_parts (p x) true all).0 }
last_of p x (y ∷ ys) before all = last_of p y ys (x ∷ before) (and_parts (p x) (list_all p (y ∷ ys)) all).1

-- ---- a word before a quote

-- before a byte that is no white space there is none where the word has its letter
no_space_before : (c : ℕ) (w xs before : List ℕ) → list_all is_space xs ≡ true → is_space c ≡ false → begins (c ∷ w) (back xs before) ≡ true → xs ≡ []
no_space_before c w [] before all other h = refl
no_space_before c w (x ∷ xs) before all other h =
    let last = last_of is_space x xs before all in
    let same = eqb-true last.head c (and_parts (last.head == c) (begins w last.rest) (ap (begins (c ∷ w)) (sym last.whole) ∙ h)).0 in
    absurd (true≢false (sym last.passes ∙ ap is_space same ∙ other))

-- a text without a colon, and then a byte that is not in a word, begin with the word and a colon: so the text is the word
ends_word : (w r : List ℕ) (y : ℕ) (z : List ℕ) → list_all (is_other 58) r ≡ true → list_all (is_other y) w ≡ true → begins (w ++ (58 ∷ [])) (r ++ (y ∷ z)) ≡ true → r ≡ w
ends_word [] [] y z free other h = refl
ends_word [] (x ∷ xs) y z free other h =
    absurd (true≢false (sym (and_parts (is_other 58 x) (list_all (is_other 58) xs) free).0 ∙ ap not (and_parts (x == 58) true h).0))
ends_word (w ∷ ws) [] y z free other h =
    let same = eqb-true y w (and_parts (y == w) (begins (ws ++ (58 ∷ [])) z) h).0 in
    absurd (true≢false (sym (and_parts (is_other y w) (list_all (is_other y) ws) other).0 ∙ ap not (eq-eqb w y (sym same))))
ends_word (w ∷ ws) (x ∷ xs) y z free other h =
    let both = and_parts (x == w) (begins (ws ++ (58 ∷ [])) (xs ++ (y ∷ z))) h in
    ap (λ (t : List ℕ). x ∷ t) (ends_word ws xs y z (and_parts (is_other 58 x) (list_all (is_other 58) xs) free).1 (and_parts (is_other y w) (list_all (is_other y) ws) other).1 both.1)
    ∙ ap (λ (b : ℕ). b ∷ ws) (eqb-true x w both.0)

word_same : (w t : List ℕ) → pointwise nat_eq w t ≡ true → w ≡ t
word_same [] [] h = refl
word_same [] (b ∷ bs) h = absurd (true≢false (sym h))
word_same (w ∷ ws) [] h = absurd (true≢false (sym h))
word_same (w ∷ ws) (b ∷ bs) h =
    let both = and_parts (nat_eq w b) (pointwise nat_eq ws bs) h in
    ap (λ (t : List ℕ). w ∷ t) (word_same ws bs both.1) ∙ ap (λ (c : ℕ). c ∷ bs) (eqb-true w b both.0)

-- bytes that end as an `author` do so the last one first
pub author_ends : (front before : List ℕ) → ends_with nat_eq front (codes ":author=") ≡ true → NamesAuthor (back front before)
author_ends front before h =
    let k = length front - length (codes ":author=") in
    let end = word_same (codes ":author=") (drop k front) h in
    let ahead = back (take k front) before in
    let whole : back (codes ":author=") ahead ≡ back front before =
    ap (λ (t : List ℕ). back t ahead) end ∙ sym (back-append (take k front) (drop k front) before) ∙ ap (λ (t : List ℕ). back t before) (take-append-drop k front) in
    subst NamesAuthor whole refl

-- ---- names have no colon

high_is_other : (n : ℕ) → 128 ≤ n → is_other 58 n ≡ true
high_is_other n h = grind (arith, nat_tests)

bytes_free : (c : ℕ) → is_other 58 c ≡ true → list_all (is_other 58) (encode_utf8 c) ≡ true
unfolding encode
bytes_free c h = by (ltb c 128) (ltb c 2048) (ltb c 65536)
  where
    high : (n : ℕ) (bs : List ℕ) → 128 ≤ n → list_all (is_other 58) bs ≡ true → list_all (is_other 58) (n ∷ bs) ≡ true
    high n bs long more = and_from (is_other 58 n) (list_all (is_other 58) bs) (high_is_other n long) more

    last : list_all (is_other 58) (next c ∷ []) ≡ true
    last = high (next c) [] (omega arith) refl

    two : list_all (is_other 58) (next (c / 64) ∷ next c ∷ []) ≡ true
    two = high (next (c / 64)) (next c ∷ []) (omega arith) last

    by : (x y z : Bool) → list_all (is_other 58) (cond x (c ∷ []) (cond y ((192 + c / 64) ∷ next c ∷ []) (cond z ((224 + c / 4096) ∷ next (c / 64) ∷ next c ∷ []) ((240 + c / 262144) ∷ next (c / 4096) ∷ next (c / 64) ∷ next c ∷ [])))) ≡ true
    by true y z = and_from (is_other 58 c) true h refl
    by false true z = high (192 + c / 64) (next c ∷ []) (omega arith) last
    by false false true = high (224 + c / 4096) (next (c / 64) ∷ next c ∷ []) (omega arith) two
    by false false false = high (240 + c / 262144) (next (c / 4096) ∷ next (c / 64) ∷ next c ∷ []) (omega arith) (high (next (c / 4096)) (next (c / 64) ∷ next c ∷ []) (omega arith) two)

followed : (c : ℕ) → may_follow false c ≡ true → is_other 58 c ≡ true
unfolding may_follow
followed c h = (and_parts (is_name_character c) (is_other 58 c) h).1

started : (c : ℕ) → may_start false c ≡ true → is_other 58 c ≡ true
unfolding may_start
started c h = (and_parts (is_name_start c) (is_other 58 c) h).1

characters_free : (cs : List ℕ) → list_all (may_follow false) cs ≡ true → list_all (is_other 58) (encode_utf8_all cs) ≡ true
characters_free [] h = refl
characters_free (c ∷ cs) h =
    let both = and_parts (may_follow false c) (list_all (may_follow false) cs) h in
    list_all-append (is_other 58) (encode_utf8 c) (encode_utf8_all cs) ∙ and_from (list_all (is_other 58) (encode_utf8 c)) (list_all (is_other 58) (encode_utf8_all cs)) (bytes_free c (followed c both.0)) (characters_free cs both.1)

word_free : (w : List ℕ) → IsWord false w → list_all (is_other 58) w ≡ true
word_free w h =
    ap (list_all (is_other 58)) h.whole
    ∙ list_all-append (is_other 58) (encode_utf8 h.first) (encode_utf8_all h.more)
    ∙ and_from (list_all (is_other 58) (encode_utf8 h.first)) (list_all (is_other 58) (encode_utf8_all h.more)) (bytes_free h.first (started h.first h.start)) (characters_free h.more h.each)

-- ---- an attribute whose text before its quote ends as an `author`

abbrev author_back : List ℕ
author_back = codes "rohtua"

spaces_free : (y : ℕ) → is_space y ≡ true → list_all (is_other y) author_back ≡ true
unfolding is_space
spaces_free y h = grind (arith, nat_tests)

is_author_name : (local : List ℕ) (y : ℕ) (z : List ℕ) → list_all (is_other 58) local ≡ true → list_all (is_other y) author_back ≡ true
    → begins (author_back ++ (58 ∷ [])) (back local (y ∷ z)) ≡ true → local ≡ codes "author"
is_author_name local y z free other h =
    let same = ends_word author_back (back local []) y z (back_all (is_other 58) local [] free refl) other (ap (begins (author_back ++ (58 ∷ []))) (sym (back-onto local (y ∷ z))) ∙ h) in
    sym (append-nil local) ∙ sym (back-back local [] []) ∙ ap (λ (t : List ℕ). back t []) same

named_author : (prefix local gap before : List ℕ) → (gap ≢ []) → list_all is_space gap ≡ true → list_all (is_other 58) local ≡ true
    → begins (author_back ++ (58 ∷ [])) (back (qualified_text (record { prefix = prefix; local = local })) (back gap before)) ≡ true → local ≡ codes "author"
named_author [] local [] before filled spaces free h = absurd (filled refl)
named_author [] local (g ∷ gap) before filled spaces free h =
    let last = last_of is_space g gap before spaces in
    is_author_name local last.head last.rest free (spaces_free last.head last.passes) (ap (λ (t : List ℕ). begins (author_back ++ (58 ∷ [])) (back local t)) (sym last.whole) ∙ h)
named_author (p ∷ ps) local gap before filled spaces free h =
    is_author_name local 58 (back (p ∷ ps) (back gap before)) free refl
    (ap (begins (author_back ++ (58 ∷ []))) (sym (back-append (p ∷ ps) (58 ∷ local) (back gap before))) ∙ h)

-- these bytes are before the quote of the value
abbrev quoted_after : Attribute → List ℕ → List ℕ
quoted_after a before = back a.right (61 ∷ back a.left (back (qualified_text a.name) (back a.gap before)))

sign_is_no_space : is_space 61 ≡ false
unfolding is_space
sign_is_no_space = refl

letter_is_no_space : is_space 114 ≡ false
unfolding is_space
letter_is_no_space = refl

author_before : (a : Attribute) (before : List ℕ) → IsAttribute a → NamesAuthor (quoted_after a before) → a.name.local ≡ codes "author"
author_before a before i h =
    let named = back (qualified_text a.name) (back a.gap before) in
    let right = no_space_before 61 (author_back ++ (58 ∷ [])) a.right (61 ∷ back a.left named) i.right sign_is_no_space h in
    let h2 : begins (author_back ++ (58 ∷ [])) (back a.left named) ≡ true = ap (λ (r : List ℕ). begins (61 ∷ (author_back ++ (58 ∷ []))) (back r (61 ∷ back a.left named))) (sym right) ∙ h in
    let left = no_space_before 114 (codes "ohtua:") a.left named i.left letter_is_no_space h2 in
    let h3 : begins (author_back ++ (58 ∷ [])) named ≡ true = ap (λ (l : List ℕ). begins (author_back ++ (58 ∷ [])) (back l named)) (sym left) ∙ h2 in
    named_author a.name.prefix a.name.local a.gap before i.gap.0 i.gap.1 (word_free a.name.local i.name.local) h3

-- ---- quotes

quotes-rest : (table : Table) (front before rest : List ℕ) → QuotesPass table before (front ++ rest) → QuotesPass table (back front before) rest
quotes-rest table [] before rest h = h
quotes-rest table (b ∷ front) before rest h = quotes-rest table front (b ∷ before) rest h.1

-- before the first quote there is none
quotes_after : (table : Table) (before t : List ℕ) → QuotesPass table (back (front (is_other 34) t) before) (after (is_other 34) t) → QuotesPass table before t
quotes_after table before [] h = tt
quotes_after table before (b ∷ bs) h = by (is_other 34 b) refl h (quotes_after table (b ∷ before) bs)
  where
    by : (other : Bool) → is_other 34 b ≡ other → QuotesPass table (back (if other then b ∷ front (is_other 34) bs else []) before) (if other then after (is_other 34) bs else b ∷ bs)
        → (QuotesPass table (back (front (is_other 34) bs) (b ∷ before)) (after (is_other 34) bs) → QuotesPass table (b ∷ before) bs) → QuotesPass table before (b ∷ bs)
    by true e h more = (λ quote. absurd (true≢false (sym e ∙ ap (is_other 34) quote)), more h)
    by false e h more = h

-- the same of what was found before and from the next quote on
pub quotes_found : (table : Table) (before t ahead rest : List ℕ) → ahead ≡ front (is_other 34) t → rest ≡ after (is_other 34) t → QuotesPass table (back ahead before) rest → QuotesPass table before t
quotes_found table before t ahead rest p q h =
    quotes_after table before t (subst (QuotesPass table (back (front (is_other 34) t) before)) q (subst (λ (f : List ℕ). QuotesPass table (back f before) rest) p h))

others-rest : (front rest : List ℕ) → list_all (is_other 39) (front ++ rest) ≡ true → list_all (is_other 39) rest ≡ true
others-rest [] rest h = h
others-rest (b ∷ front) rest h = others-rest front rest (and_parts (is_other 39 b) (list_all (is_other 39) (front ++ rest)) h).1

none_left : (t : List ℕ) → after (is_other 39) t ≡ [] → list_all (is_other 39) t ≡ true
none_left t e =
    ap (list_all (is_other 39)) (sym (sym (append-nil (front (is_other 39) t)) ∙ ap (λ (rest : List ℕ). front (is_other 39) t ++ rest) (sym e) ∙ front-after (is_other 39) t))
    ∙ front_passes (is_other 39) t

pub nil_by_length : (t : List ℕ) → eqb (length t) 0 ≡ true → t ≡ []
nil_by_length [] h = refl
nil_by_length (b ∷ bs) h = absurd (omega (arith, eqb-true (length (b ∷ bs)) 0 h))

-- ---- attributes

told_none : (table : Table) (part text : List ℕ) → is_author table text ≡ false → found_told table part text ≡ []
told_none table part text h = ap (λ b. let found : List Find = (if b then record { fact = fact.Name; part = part; value = text } ∷ [] else []) in found) h

pub name_none : (table : Table) (part : List ℕ) (attribute : Name × List ℕ) → (attribute.0.local ≡ codes "author") ⊎ BeginsNone table attribute.1 → found_name table part attribute ≡ []
name_none table part attribute (inl e) = ap (λ (local : List ℕ). if bytes_eq local (codes "author") then [] else found_told table part (decoded_value attribute.1)) e
name_none table part attribute (inr h) = if_none (bytes_eq attribute.0.local (codes "author")) (found_told table part (decoded_value attribute.1)) (told_none table part (decoded_value attribute.1) (read_none table attribute.1 h))

-- what is known of an attribute and of what follows it, by the tail that it begins
record Quotes (table : Table) (local value rest : List ℕ) : Type 0 where
  own : (local ≡ codes "author") ⊎ BeginsNone table value
  before : List ℕ
  later : QuotesPass table before rest
  others : list_all (is_other 39) rest ≡ true

quotes_of : (table : Table) (a : Attribute) (before rest : List ℕ) → IsAttribute a → QuotesPass table before (attribute_then a rest) → list_all (is_other 39) (attribute_then a rest) ≡ true
    → Quotes table a.name.local a.value rest
quotes_of table a before rest i quotes others =
    let closed = a.quote ∷ rest in
    let value = a.quote ∷ (a.value ++ closed) in
    let equated = a.left ++ (61 ∷ (a.right ++ value)) in
    let named = quotes-rest table a.gap before (qualified_text a.name ++ equated) quotes in
    let after_gap = back a.gap before in
    let after_name = back (qualified_text a.name) after_gap in
    let opened = quotes-rest table a.right (61 ∷ back a.left after_name) value
    (quotes-rest table a.left after_name (61 ∷ (a.right ++ value)) (quotes-rest table (qualified_text a.name) after_gap equated named)).1 in
    let other_named = others-rest a.gap (qualified_text a.name ++ equated) others in
    let other_equated = others-rest a.left (61 ∷ (a.right ++ value)) (others-rest (qualified_text a.name) equated other_named) in
    let other_opened = others-rest a.right value (others-rest (61 ∷ []) (a.right ++ value) other_equated) in
    let is_34 : a.quote ≡ 34 = by i.quote other_opened in
    let at_quote = a.quote ∷ quoted_after a before in
    record {
      own = own (opened.0 is_34);
      before = a.quote ∷ back a.value at_quote;
      later = (quotes-rest table a.value at_quote closed opened.1).1;
      others = others-rest (a.quote ∷ []) rest (others-rest a.value closed (others-rest (a.quote ∷ []) (a.value ++ closed) other_opened));
    }
  where
    by : IsQuote a.quote → list_all (is_other 39) (a.quote ∷ (a.value ++ (a.quote ∷ rest))) ≡ true → a.quote ≡ 34
    by (inl e) h = e
    by (inr e) h = absurd (true≢false (sym (and_parts (is_other 39 a.quote) (list_all (is_other 39) (a.value ++ (a.quote ∷ rest))) h).0 ∙ ap (is_other 39) e))

    own : Passes table (quoted_after a before) (a.value ++ (a.quote ∷ rest)) → (a.name.local ≡ codes "author") ⊎ BeginsNone table a.value
    own (inl named) = inl (author_before a before i named)
    own (inr none) = inr (begins-front table a.value (a.quote ∷ rest) none)

among_none : (table : Table) (part : List ℕ) (n : ℕ) (before tail : List ℕ) → QuotesPass table before tail → list_all (is_other 39) tail ≡ true → found_among table part (attributes_from n tail) ≡ []
among_none table part zero before tail quotes others = refl
among_none table part (suc n) before tail quotes others = by (attribute_in tail) refl (among_none table part n)
  where
    by : (o : Option ((Name × List ℕ) × List ℕ)) → attribute_in tail ≡ o
        → ((ahead rest : List ℕ) → QuotesPass table ahead rest → list_all (is_other 39) rest ≡ true → found_among table part (attributes_from n rest) ≡ [])
        → found_among table part (attributes_by (attributes_from n) o) ≡ []
    by None e more = refl
    by (Some x) e more =
        let t = first_takes tail x e in
        let q = quotes_of table t.0 before x.1 t.2 (subst (QuotesPass table before) t.1 quotes) (ap (list_all (is_other 39)) (sym t.1) ∙ others) in
        let Own : Name × List ℕ → Type 0 = λ named. (named.0.local ≡ codes "author") ⊎ BeginsNone table named.1 in
        ap (λ (found : List Find). found ++ found_among table part (attributes_from n x.1)) (name_none table part x.0 (subst Own t.3 q.own))
        ∙ more q.before x.1 q.later q.others

-- no value of such a tail is the name of an author
pub names_none : (table : Table) (tail : List ℕ) → after (is_other 39) tail ≡ [] → QuotesPass table [] tail → (part : List ℕ) → found_names table part tail ≡ []
unfolding attributes_of
names_none table tail none quotes part = among_none table part (suc (length tail)) [] tail quotes (none_left tail none)

-- an empty tail has no values
pub no_names : (table : Table) (part : List ℕ) → found_names table part [] ≡ []
unfolding attributes_of attribute_in
no_names table part = refl
