-- A tail whose one attribute says that white space is kept.
use Rattle.std.specs.Prelude.{◌≡◌, List, ℕ, [], ◌∷◌, Some, codes}
use Rattle.redl_reading.specs.Lists.{before}
use Rattle.redl_grammar.specs.Names.{Name}
use Rattle.redl_grammar.specs.ScanTags.{tail_at}
use Rattle.redl_markup.specs.Attributes.{names_in}

-- the bytes begin with a tail that has one attribute, `xml:space`, and the rest follows it
pub record Preserves (bs rest : List ℕ) : Type 0 where
  pub read : tail_at bs ≡ Some (before bs rest, rest)
  pub names : names_in (before bs rest) ≡ record { prefix = codes "xml"; local = codes "space" } ∷ []
