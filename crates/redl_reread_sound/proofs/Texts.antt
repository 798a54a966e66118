-- Texts of allowed characters: their parts, and what is put together of them.
use Rattle.std.proofs.Common.{◌≡◌, ◌∙◌, refl, sym, ap, subst, ℕ, ◌<◌, List, [], ◌∷◌, ◌++◌, append-nil, true, false, ◌⊎◌, inl, inr, eqb, arith, codes}
use Rattle.std.specs.Prelude.{not}
use Rattle.std.specs.List.{list_all}
use Rattle.std.specs.Str.{IsUtf8, chars}
use Rattle.std.proofs.lemmas.Bool.{and_parts, and_from, eqb-true, lt-ltb}
use Rattle.std.proofs.lemmas.Bool.Decides.{nat_tests}
use Rattle.std.proofs.lemmas.Str.{IsUtf8-append, IsUtf8-nil, chars-append}
use lib.Utf8.{encode}
use Rattle.redl_grammar.specs.Characters.{is_character, is_space, IsText}
use Rattle.redl_grammar.specs.Names.{Name, name_text, IsWord, IsName}
use Rattle.redl_grammar.specs.Stretches.{begins_item, ends_stretch}
use Rattle.redl_grammar.specs.Tails.{IsSpace}
use Rattle.redl_markup.proofs.Characters.{text_is_utf8, tests_text}
use Rattle.redl_markup.proofs.Utf8.{cut_ascii, word_is_utf8}
use Rattle.redl_reading.proofs.Runs.{passes-append, list_all-parts}

text-of : (bs : List ℕ) → IsUtf8 bs → list_all is_character (chars bs) ≡ true → IsText bs
text-of bs u all = (tests_text bs true u (sym all)).0 refl

of-text : (bs : List ℕ) → IsText bs → list_all is_character (chars bs) ≡ true
of-text bs h = (tests_text bs (list_all is_character (chars bs)) (text_is_utf8 bs h) refl).1 h

pub text-nil : IsText []
text-nil = record { characters = []; each = refl; whole = refl }

pub text-append : (x y : List ℕ) → IsText x → IsText y → IsText (x ++ y)
text-append x y h g =
    let u = text_is_utf8 x h in
    text-of (x ++ y) (IsUtf8-append x y u (text_is_utf8 y g))
    (ap (list_all is_character) (chars-append x y u) ∙ passes-append is_character (chars x) (chars y) (of-text x h) (of-text y g))

pub text-parts : (x y : List ℕ) → IsUtf8 x → IsUtf8 y → IsText (x ++ y) → IsText x × IsText y
text-parts x y u v h =
    let both = list_all-parts is_character (chars x) (chars y) (sym (ap (list_all is_character) (chars-append x y u)) ∙ of-text (x ++ y) h) in
    (text-of x u both.0, text-of y v both.1)

-- ---- signs

pub less : IsText (60 ∷ [])
unfolding is_character encode
less = record { characters = 60 ∷ []; each = refl; whole = refl }

pub greater : IsText (62 ∷ [])
unfolding is_character encode
greater = record { characters = 62 ∷ []; each = refl; whole = refl }

pub ends_empty : IsText (47 ∷ 62 ∷ [])
unfolding is_character encode
ends_empty = record { characters = 47 ∷ 62 ∷ []; each = refl; whole = refl }

pub begins_end : IsText (60 ∷ 47 ∷ [])
unfolding is_character encode
begins_end = record { characters = 60 ∷ 47 ∷ []; each = refl; whole = refl }

colon : IsText (58 ∷ [])
unfolding is_character encode
colon = record { characters = 58 ∷ []; each = refl; whole = refl }

pub live_text : IsText (codes "t")
unfolding is_character encode
live_text = record { characters = codes "t"; each = refl; whole = refl }

pub live_code : IsText (codes "instrText")
unfolding is_character encode
live_code = record { characters = codes "instrText"; each = refl; whole = refl }

-- ---- white space

space-character : (b : ℕ) → is_space b ≡ true → is_character b ≡ true
unfolding is_space is_character
space-character b h = grind (arith, nat_tests)

space-low : (b : ℕ) → is_space b ≡ true → b < 128
unfolding is_space
space-low b h = grind (arith, nat_tests)

one-space : (b : ℕ) → is_space b ≡ true → IsText (b ∷ [])
unfolding encode
one-space b h = record {
  characters = b ∷ [];
  each = and_from (is_character b) true (space-character b h) refl;
  whole = rw (lt-ltb b 128 (space-low b h)) refl;
}

pub space-text : (s : List ℕ) → IsSpace s → IsText s
space-text [] h = text-nil
space-text (b ∷ s) h = let both = and_parts (is_space b) (list_all is_space s) h in text-append (b ∷ []) s (one-space b both.0) (space-text s both.1)

-- ---- names

pub name-utf8 : (name : Name) → IsName name → IsUtf8 (name_text name)
name-utf8 name h = at name.prefix h.prefix
  where
    at : (prefix : List ℕ) → (prefix ≡ []) ⊎ IsWord false prefix → IsUtf8 (name_text (record { prefix = prefix; local = name.local }))
    at [] is = word_is_utf8 false name.local h.local
    at (p ∷ ps) (inl e) = absurd (cc e)
    at (p ∷ ps) (inr word) = IsUtf8-append (p ∷ ps) (58 ∷ name.local) (word_is_utf8 false (p ∷ ps) word)
        (IsUtf8-append (58 ∷ []) name.local (text_is_utf8 (58 ∷ []) colon) (word_is_utf8 false name.local h.local))

-- the name with another local part, which is a text too
pub name-local : (name : Name) (local : List ℕ) → IsName name → IsText (name_text name) → IsText local
    → (let other : Name = record { prefix = name.prefix; local = local } in IsText (name_text other))
name-local name local h t new = at name.prefix h.prefix t
  where
    at : (prefix : List ℕ) → (prefix ≡ []) ⊎ IsWord false prefix → IsText (name_text (record { prefix = prefix; local = name.local }))
        → IsText (name_text (record { prefix = prefix; local = local }))
    at [] is t = new
    at (p ∷ ps) (inl e) t = absurd (cc e)
    at (p ∷ ps) (inr word) t =
        let after_it = IsUtf8-append (58 ∷ []) name.local (text_is_utf8 (58 ∷ []) colon) (word_is_utf8 false name.local h.local) in
        let parts = text-parts (p ∷ ps) (58 ∷ name.local) (word_is_utf8 false (p ∷ ps) word) after_it t in
        text-append (p ∷ ps) (58 ∷ local) parts.0 (text-append (58 ∷ []) local colon new)

-- ---- pieces

-- what stands before a stretch's end is UTF-8
pub front-utf8 : (s rest : List ℕ) → ends_stretch rest ≡ true → IsUtf8 (s ++ rest) → IsUtf8 s
front-utf8 s [] end u = let P : List ℕ → Type 0 = λ z. IsUtf8 z in subst P (append-nil s) u
front-utf8 s (b ∷ rest) end u =
    let same : b ≡ 60 = eqb-true b 60 (and_parts (eqb b 60) (not (begins_item (b ∷ rest))) end).0 in
    (cut_ascii s b rest (omega arith) u).left

-- and so is what follows it
pub rest-utf8 : (s rest : List ℕ) → ends_stretch rest ≡ true → IsUtf8 (s ++ rest) → IsUtf8 rest
rest-utf8 s [] end u = IsUtf8-nil
rest-utf8 s (b ∷ rest) end u =
    let same : b ≡ 60 = eqb-true b 60 (and_parts (eqb b 60) (not (begins_item (b ∷ rest))) end).0 in
    (cut_ascii s b rest (omega arith) u).from

-- the name, the tail and what follows of a start tag
pub record StartParts (name tail rest : List ℕ) : Type 0 where
  pub named : IsText name
  pub written : IsText tail
  pub behind : IsText rest

pub start-parts : (name tail rest : List ℕ) → IsUtf8 name → IsUtf8 tail → IsUtf8 rest → IsText (60 ∷ (name ++ (tail ++ rest))) → StartParts name tail rest
start-parts name tail rest n u r t =
    let inner = IsUtf8-append tail rest u r in
    let first = text-parts (60 ∷ []) (name ++ (tail ++ rest)) (text_is_utf8 (60 ∷ []) less) (IsUtf8-append name (tail ++ rest) n inner) t in
    let second = text-parts name (tail ++ rest) n inner first.1 in
    let third = text-parts tail rest u r second.1 in
    record { named = second.0; written = third.0; behind = third.1 }
