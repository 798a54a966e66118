-- Values that are no name of an author by their first byte, and quotes after which an author is named by an `author`.
use Rattle.std.specs.Prelude.{◌≡◌, ℕ, List, [], ◌∷◌, true, false, codes, ◌⊎◌}
use Rattle.redl_markup.specs.Decoding.{is_literal}
use Rattle.redl_reading.specs.Lists.{begins}
use Rattle.redl_left.specs.Finds.{Table}
use Rattle.redl_left.specs.declared.fact.Fact.TheVariants as fact

-- a value that begins so is read with that byte, and no name begins with it
abbrev pub BeginsNone : Table → List ℕ → Type 0
BeginsNone table [] = Unit {0}
BeginsNone table (b ∷ bs) = (is_literal b ≡ true) × ((rest : List ℕ) → table.named fact.Name (b ∷ rest) ≡ false)

-- the bytes, the last one first, and then these
abbrev pub back : List ℕ → List ℕ → List ℕ
back [] before = before
back (b ∷ bs) before = back bs (b ∷ before)

-- these bytes, the last one first, end as an `author` with a prefix and its `=`
abbrev pub NamesAuthor : List ℕ → Type 0
NamesAuthor before = begins (codes "=rohtua:") before ≡ true

-- no name begins after a quote behind these bytes, or it is that of an `author`
abbrev pub Passes : Table → List ℕ → List ℕ → Type 0
Passes table before rest = NamesAuthor before ⊎ BeginsNone table rest

-- after each `"` of the text, behind these bytes
abbrev pub QuotesPass : Table → List ℕ → List ℕ → Type 0
QuotesPass table before [] = Unit {0}
QuotesPass table before (b ∷ bs) = (b ≡ 34 → Passes table before bs) × QuotesPass table (b ∷ before) bs
