-- The decoded value of an attribute (XML 1.0, 2.11 and 3.3.3).
use Rattle.std.specs.Prelude.{ℕ, Bool, true, false, ◌==◌, ◌&&◌, List, [], ◌∷◌, ◌++◌, Option, Some, None, if◌then◌else◌, not, encode_utf8}
use Rattle.redl_grammar.specs.Characters.{is_space}
use Rattle.redl_reading.specs.Lists.{begins, is_other}
use Rattle.redl_grammar.specs.References.{reference_at}

-- the UTF-8 of a reference's character
abbrev pub character_text : Option (ℕ × List ℕ) → List ℕ
character_text None = []
character_text (Some x) = encode_utf8 x.0

-- A reference becomes its character, and the rest of it up to its `;` is skipped. A literal white space character
-- becomes a space, and U+000D followed by U+000A becomes one space.
abbrev pub decoded_from : Bool → List ℕ → List ℕ
decoded_from in_reference [] = []
decoded_from true (b ∷ bs) = decoded_from (not (b == 59)) bs
decoded_from false (b ∷ bs) =
    if b == 38 then character_text (reference_at bs) ++ decoded_from true bs
    else (if b == 13 && begins (10 ∷ []) bs then decoded_from false bs
    else (if is_space b then 32 ∷ decoded_from false bs else b ∷ decoded_from false bs))

-- not `&`, and no white space but a space: decoding leaves such a byte as it is
abbrev pub is_literal : ℕ → Bool
is_literal b = is_other 38 b && is_other 9 b && is_other 10 b && is_other 13 b

-- the decoded value
abbrev pub decoded_value : List ℕ → List ℕ
decoded_value value = decoded_from false value
