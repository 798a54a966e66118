-- The text before the value of an attribute as most programs write it.
use Rattle.std.specs.Prelude.{◌≡◌, ℕ, List, ◌∷◌, ◌++◌, codes}
use Rattle.redl_grammar.specs.Names.{IsName, Name, name_text}

-- a name of two parts
abbrev pub named : List ℕ → List ℕ → Name
named prefix local = record { prefix = prefix; local = local }

-- a space, a legal name, `=` and a quote
pub record IsFront (name : Name) (t : List ℕ) : Type 0 where
  pub whole : t ≡ 32 ∷ (name_text name ++ (codes "=\""))
  pub legal : IsName name
