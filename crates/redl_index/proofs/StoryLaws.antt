-- The attributes of a story's markers.
use Rattle.std.proofs.Common.{ℕ, zero, suc, List, [], ◌∷◌, All, get_or}
use Rattle.std.proofs.lemmas.List.Elements.{All-head, All-tail}
use Rattle.std.proofs.lemmas.Str.{IsUtf8-nil}
use Rattle.std.specs.Str.{IsUtf8}

-- what a place tells is UTF-8
pub utf8-at : (tails : List (List ℕ)) (place : ℕ) → All IsUtf8 tails → IsUtf8 (get_or tails place [])
utf8-at [] place utf8 = IsUtf8-nil
utf8-at (tail ∷ tails) zero utf8 = All-head IsUtf8 tail tails utf8
utf8-at (tail ∷ tails) (suc place) utf8 = utf8-at tails place (All-tail IsUtf8 tail tails utf8)
