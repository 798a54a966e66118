-- The end of a text that stands before the words.
use Rattle.std.proofs.Common.{◌≡◌, ◌<◌, ◌-◌, ◌++◌, ◌∙◌, ℕ, Bool, true, false, List, [], ◌∷◌, nat_le, refl, sym, ap, arith}
use Rattle.std.proofs.lemmas.Bool.{leb-true}
use Rattle.redl_said.specs.Lines.{characters_in, without_characters}
use Rattle.redl_terminal.specs.Masks.{hidden_length, masked}
use Rattle.redl_terminal.specs.declared.extent.Extent.TheVariants.{Field}
use Rattle.redl_listing.specs.Words.{dots, near_end}

near_end-long : (text : List ℕ) → 11 < characters_in text → near_end text ≡ dots ++ without_characters (characters_in text - 11) text
near_end-long text more = by (nat_le (characters_in text) 11) refl
  where
    by : (test : Bool) → nat_le (characters_in text) 11 ≡ test → near_end text ≡ dots ++ without_characters (characters_in text - 11) text
    by true is = absurd (omega (arith, more, leb-true (characters_in text) 11 is))
    by false is = rw is refl

masked-dots : (text : List ℕ) → dots ++ masked Field text ≡ masked Field (dots ++ text)
unfolding hidden_length
masked-dots [] = refl
masked-dots (c ∷ []) = refl
masked-dots (c ∷ d ∷ text) = refl

-- the last characters, with dots for those before
pub near_end-masked : (text : List ℕ) (count : ℕ) (end : List ℕ) → 11 < characters_in text → count ≡ characters_in text → end ≡ without_characters (count - 11) text
    → dots ++ masked Field end ≡ masked Field (near_end text)
near_end-masked text count end more is end_is =
    masked-dots end ∙ ap (λ t. masked Field (dots ++ t)) (end_is ∙ ap (λ (n : ℕ). without_characters (n - 11) text) is) ∙ ap (masked Field) (sym (near_end-long text more))
