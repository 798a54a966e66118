-- Lines that name the same values.
use Rattle.std.specs.Prelude.{◌≡◌, ℕ, List, length}
use Rattle.redl_left.specs.Named.{named_in}
use Rattle.redl_left.specs.declared.fact.Fact.{Fact}
use Rattle.redl_left.specs.declared.line.Line.{Line}

-- for each fact the same values are named in both
pub record NameAlike (a b : List (List Line)) : Type 0 where
  pub places : length a ≡ length b
  pub named : (fact : Fact) (value : List ℕ) → named_in a fact value ≡ named_in b fact value
