-- The tokens of a line's object, the commas between objects, and texts that are UTF-8.
use Rattle.std.proofs.Common.{◌≡◌, ◌≤◌, ◌==◌, refl, ℕ, zero, suc, Bool, true, false, List, [], ◌∷◌, ◌++◌, codes, decimal, length, take, arith, if◌then◌else◌}
use Rattle.std.proofs.lemmas.Bool.{eqb-true}
use Rattle.std.proofs.lemmas.Str.{IsUtf8-from_is_utf8, is_utf8-from_IsUtf8}
use Rattle.std.specs.Str.{IsUtf8, is_utf8}
use Rattle.json.specs.Token.{Token, begin_object, end_object, key, string, number}
use Rattle.json.specs.Print.{print}
use Rattle.serde_json.proofs.Texts.{print-outline}
use Rattle.redl_formats.specs.Formats.{comma_after}
use Rattle.redl_left.specs.Facts.{fact_name}
use Rattle.redl_left.specs.declared.line.Line.{Line}
use Rattle.redl_left_texts.specs.Texts.{json_line, json_object, text_or_nothing, comma_at}

abbrev pub line_tokens : Line → List Token
line_tokens line =
    begin_object ∷ key (codes "count") ∷ number (decimal line.count) ∷ key (codes "fact") ∷ string (fact_name line.fact)
    ∷ key (codes "part") ∷ string (text_or_nothing line.part) ∷ key (codes "value") ∷ string (text_or_nothing line.value) ∷ end_object ∷ []

-- printed, they are the line's object
pub line-printed : (line : Line) → print (line_tokens line) ≡ json_line line
unfolding json_line
line-printed line = print-outline (json_object line)

abbrev comma : List ℕ
comma = 44 ∷ []

-- after so many objects
pub comma-at : {I : Type 0} (items : List I) (place : ℕ) → place ≤ length items → comma_after (take place items) ≡ comma_at place
comma-at items zero within = refl
comma-at [] (suc n) within = absurd (omega (arith, within))
comma-at (x ∷ items) (suc n) within = by (suc n == 0) refl where
  by : (b : Bool) → (suc n == 0) ≡ b → comma ≡ (if b then [] else comma)
  by true e = let none = eqb-true (suc n) 0 e in absurd (omega (arith, none))
  by false e = refl

pub text-is : (bytes : List ℕ) → IsUtf8 bytes → bytes ≡ text_or_nothing bytes
text-is bytes is = rw (is_utf8-from_IsUtf8 bytes is) refl

pub text-is_not : (bytes : List ℕ) → (IsUtf8 bytes → ⊥) → [] ≡ text_or_nothing bytes
text-is_not bytes none = by (is_utf8 bytes) refl
  where
    by : (test : Bool) → is_utf8 bytes ≡ test → [] ≡ text_or_nothing bytes
    by true is = absurd (none (IsUtf8-from_is_utf8 bytes is))
    by false is = rw is refl
