-- Texts that are UTF-8, and details one after another.
use Rattle.std.proofs.Common.{◌≡◌, ◌+◌, ◌<◌, ℕ, suc, Bool, true, false, List, [], ◌∷◌, ◌++◌, length, map, take, get_or, Option, refl, sym, ap, ◌∙◌, arith, append_assoc}
use Rattle.std.proofs.lemmas.List.{append-nil, length_push, map_more, map-append}
use Rattle.std.specs.Map.Iter.{deref}
use denote.Ref.{Bor}
use Rattle.std.proofs.lemmas.Str.{IsUtf8-from_is_utf8, is_utf8-from_IsUtf8}
use Rattle.std.specs.Str.{IsUtf8, is_utf8}
use Rattle.redl_places.specs.declared.place.StoryPlace.{StoryPlace}
use Rattle.redl_excerpts.specs.declared.excerpt.Excerpt.{Excerpt}
use Rattle.redl_journal.specs.declared.entry.Entry.{Entry}
use Rattle.redl_excerpts.specs.declared.detail.Detail.{Detail}
use Rattle.redl_excerpts.specs.declared.last_word.LastWord.{LastWord}
use Rattle.redl_excerpts.specs.Details.{detail_if, details_from, details_of, last_word_of, text_or_nothing}

pub text-is : (bytes : List ℕ) → IsUtf8 bytes → bytes ≡ text_or_nothing bytes
text-is bytes is = rw (is_utf8-from_IsUtf8 bytes is) refl

pub text-is_not : (bytes : List ℕ) → (IsUtf8 bytes → ⊥) → [] ≡ text_or_nothing bytes
text-is_not bytes none = by (is_utf8 bytes) refl
  where
    by : (test : Bool) → is_utf8 bytes ≡ test → [] ≡ text_or_nothing bytes
    by true is = absurd (none (IsUtf8-from_is_utf8 bytes is))
    by false is = rw is refl

-- the test of bytes that are UTF-8 says so
pub utf8-is : (bytes : List ℕ) → IsUtf8 bytes → true ≡ is_utf8 bytes
utf8-is bytes is = sym (is_utf8-from_IsUtf8 bytes is)

-- and of others that they are not
pub utf8-is_not : (bytes : List ℕ) → (IsUtf8 bytes → ⊥) → false ≡ is_utf8 bytes
utf8-is_not bytes none = by (is_utf8 bytes) refl
  where
    by : (test : Bool) → is_utf8 bytes ≡ test → false ≡ is_utf8 bytes
    by true is = absurd (none (IsUtf8-from_is_utf8 bytes is))
    by false is = sym is

-- the text of bytes that are UTF-8
pub text-kept : (text bytes : List ℕ) → bytes ≡ text → true ≡ is_utf8 bytes → (text ≡ text_or_nothing text) × IsUtf8 text
text-kept text bytes same is =
    let here : is_utf8 text ≡ true = ap is_utf8 (sym same) ∙ sym is in
    (rw here refl, IsUtf8-from_is_utf8 text here)

pub text-lost : (text bytes nothing : List ℕ) → bytes ≡ text → false ≡ is_utf8 bytes → nothing ≡ [] → nothing ≡ text_or_nothing text
text-lost text bytes nothing same is none =
    let here : is_utf8 text ≡ false = ap is_utf8 (sym same) ∙ sym is in
    none ∙ rw here refl

-- no detail so far
pub details-begun : (details : List Detail) (left excerpts : List (Option Excerpt)) (place_on : ℕ → StoryPlace) (entries_on : ℕ → List Entry) (most : ℕ) → details ≡ [] → left ≡ excerpts → length excerpts < most
    → (details ++ details_from (length details + 1) left place_on entries_on ≡ details_of excerpts place_on entries_on) × (length details + length left < most)
details-begun details left excerpts place_on entries_on most none all within =
    let count : length details ≡ 0 = ap length none in
    let same : length left ≡ length excerpts = ap length all in
    (rw (none, all) refl, omega (arith, count, same, within))

-- one more detail, of the first of the excerpts that are left
pub details-more : (details more whole : List Detail) (excerpts left : List (Option Excerpt)) (place_on : ℕ → StoryPlace) (entries_on : ℕ → List Entry) (excerpt : Option Excerpt) (detail : Detail) → excerpts ≡ excerpt ∷ left
    → detail ≡ detail_if excerpt (place_on (length details + 1)) (entries_on (length details + 1)) → more ≡ details ++ detail ∷ [] → details ++ details_from (length details + 1) excerpts place_on entries_on ≡ whole
    → more ++ details_from (length more + 1) left place_on entries_on ≡ whole
details-more details more whole excerpts left place_on entries_on excerpt detail front is grown so_far =
    let next = length details + 1 in
    let count : length more ≡ next = ap length grown ∙ length_push details detail in
    ap (λ n. more ++ details_from (n + 1) left place_on entries_on) count ∙ ap (λ ds. ds ++ details_from (next + 1) left place_on entries_on) grown
    ∙ append_assoc details (detail ∷ []) (details_from (next + 1) left place_on entries_on)
    ∙ ap (λ d. details ++ d ∷ details_from (next + 1) left place_on entries_on) is
    ∙ ap (λ xs. details ++ details_from next xs place_on entries_on) (sym front) ∙ so_far

-- none is left
pub details-done : (details whole : List Detail) (left : List (Option Excerpt)) (place_on : ℕ → StoryPlace) (entries_on : ℕ → List Entry) → left ≡ [] → details ++ details_from (length details + 1) left place_on entries_on ≡ whole → details ≡ whole
details-done details whole left place_on entries_on none so_far = sym (append-nil details) ∙ (rw none at so_far)

-- as many details and excerpts are left as before
pub count-more : (details more : List Detail) (excerpts left : List (Option Excerpt)) (excerpt : Option Excerpt) (detail : Detail) (most : ℕ) → excerpts ≡ excerpt ∷ left → more ≡ details ++ detail ∷ []
    → length details + length excerpts < most → length more + length left < most
count-more details more excerpts left excerpt detail most front grown within =
    let count : length more ≡ length details + 1 = ap length grown ∙ length_push details detail in
    let here : length excerpts ≡ suc (length left) = ap length front in
    omega (arith, count, here, within)

-- one more word
pub words-more : (words : List LastWord) (entries : List (Bor Entry)) (i : ℕ) (entry : Bor Entry) (said : LastWord) → i < length entries → entry ≡ get_or entries i entry
    → said ≡ last_word_of (deref entry) → words ≡ map last_word_of (map deref (take i entries)) → words ++ said ∷ [] ≡ map last_word_of (map deref (take (i + 1) entries))
words-more words entries i entry said within at is so_far =
    let more : map deref (take (i + 1) entries) ≡ map deref (take i entries) ++ deref entry ∷ [] =
    map_more deref entries i entry within ∙ ap (λ e. map deref (take i entries) ++ deref e ∷ []) (sym at) in
    rw (so_far, is) (sym (ap (map last_word_of) more ∙ map-append last_word_of (map deref (take i entries)) (deref entry ∷ [])))

-- the same places and words of each revision make the same details
pub details_from-same : (number : ℕ) (excerpts : List (Option Excerpt)) (place other : ℕ → StoryPlace) (first second : ℕ → List Entry) → ((rev : ℕ) → place rev ≡ other rev) → ((rev : ℕ) → first rev ≡ second rev)
    → details_from number excerpts place first ≡ details_from number excerpts other second
details_from-same number [] place other first second places same = refl
details_from-same number (excerpt ∷ more) place other first second places same =
    ap (λ entries. detail_if excerpt (place number) entries ∷ details_from (number + 1) more place first) (same number)
    ∙ ap (λ p. detail_if excerpt p (second number) ∷ details_from (number + 1) more place first) (places number)
    ∙ ap (λ rest. detail_if excerpt (other number) (second number) ∷ rest) (details_from-same (number + 1) more place other first second places same)
