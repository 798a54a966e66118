-- Pieces of a line and parts of a list, one after another.
use Rattle.std.proofs.Common.{◌≡◌, ◌<◌, ◌≤◌, ◌∙◌, ℕ, List, ◌++◌, Bor, Option, None, Some, length, get_or, slice_get, refl, sym, ap, append_assoc, arith}
use Rattle.std.proofs.lemmas.Option.{slice_get_read}
use Rattle.std.specs.Option.{IfSome, MatchOption, option_copied}
use Rattle.redl_properties.specs.declared.attribute.Attribute.{Attribute}
use Rattle.redl_properties.specs.declared.change.Changed.{Changed}

-- after the pieces so far come a sign and one piece more
pub piece-more : (line so_far sign piece old signed new : List ℕ) → old ≡ line ++ so_far → signed ≡ old ++ sign → new ≡ signed ++ piece
    → new ≡ line ++ (so_far ++ (sign ++ piece))
piece-more line so_far sign piece old signed new first second third =
    third
    ∙ ap (λ (text : List ℕ). text ++ piece) (second ∙ ap (λ (text : List ℕ). text ++ sign) first ∙ append_assoc line so_far sign)
    ∙ append_assoc line (so_far ++ sign) piece
    ∙ ap (λ (text : List ℕ). line ++ text) (append_assoc so_far sign piece)

-- after the changes so far come those of one attribute more
pub changes-more : (changes so_far later old new : List Changed) → old ≡ changes ++ so_far → new ≡ old ++ later → new ≡ changes ++ (so_far ++ later)
changes-more changes so_far later old new first second =
    second ∙ ap (λ (list : List Changed). list ++ later) first ∙ append_assoc changes so_far later

-- what is found at a place within
pub found-is : (set : List Attribute) (place : ℕ) (found : Option (Bor Attribute)) (Q : Bor Attribute → Type 0) → place < length set
    → IfSome found (λ x. x.now ≡ get_or set place x.now) → MatchOption found (length set ≤ place) Q → option_copied found ≡ slice_get set place
found-is set place None Q within read past = absurd (omega (arith, within, past))
found-is set place (Some x) Q within read past = sym (slice_get_read set (length set) place x.now refl within read)
