-- Examples of the definitions, each by computing.
use Rattle.std.proofs.Common.{◌≡◌, [], ◌∷◌, refl}
use Rattle.std.specs.Prelude.{codes}
use lib.Utf8.{encode}
use Rattle.redl_grammar.specs.Characters.{is_character, is_space}
use Rattle.redl_grammar.specs.References.{named_at, number_at, reference_at}
use Rattle.redl_markup.specs.Decoding.{decoded_value}

decoding : (decoded_value (codes "Cy &amp; Co") ≡ codes "Cy & Co")
    × (decoded_value (codes "&#9;&lt;&amp;lt;") ≡ 9 ∷ codes "<&lt;")
    × (decoded_value (97 ∷ 9 ∷ 98 ∷ 10 ∷ 99 ∷ 13 ∷ []) ≡ codes "a b c ")
    × (decoded_value (13 ∷ 10 ∷ 13 ∷ 13 ∷ 10 ∷ []) ≡ codes "   ")
unfolding reference_at named_at number_at is_character is_space encode
decoding = (refl, refl, refl, refl)
