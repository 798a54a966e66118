-- The tail of a start tag: all of it between its name and its `>` or `/>` (XML 1.0, productions 10, 25, 40, 41 and 44).
use Rattle.std.specs.Prelude.{◌≡◌, ◌≢◌, ℕ, true, List, [], ◌∷◌, ◌++◌, ◌⊎◌, map}
use Rattle.std.specs.List.{list_all, AllByRecursion}
use Rattle.redl_grammar.specs.Characters.{is_space}
use Rattle.redl_reading.specs.Lists.{is_other}
use Rattle.redl_grammar.specs.Names.{Name, name_text, IsName, are_distinct}
use Rattle.redl_grammar.specs.References.{has_references}

-- optional white space
abbrev pub IsSpace : List ℕ → Type 0
IsSpace s = list_all is_space s ≡ true

-- An attribute with the white space before it and on both sides of its `=`. The value is as written, without its quotes.
pub record Attribute : Type 0 where
  pub gap : List ℕ
  pub name : Name
  pub left : List ℕ
  pub right : List ℕ
  pub quote : ℕ
  pub value : List ℕ

-- the text of an attribute (production 41, with Eq, production 25), followed by the rest
abbrev pub attribute_then : Attribute → List ℕ → List ℕ
attribute_then a rest =
    a.gap ++ (name_text a.name ++ (a.left ++ (61 ∷ (a.right ++ (a.quote ∷ (a.value ++ (a.quote ∷ rest)))))))

abbrev pub IsQuote : ℕ → Type 0
IsQuote q = (q ≡ 34) ⊎ (q ≡ 39)

-- AttValue, production 10: the value has no `<` and no quote of its own kind, and each `&` in it begins a reference
pub record IsAttribute (a : Attribute) : Type 0 where
  pub gap : (a.gap ≢ []) × IsSpace a.gap
  pub name : IsName a.name
  pub left : IsSpace a.left
  pub right : IsSpace a.right
  pub quote : IsQuote a.quote
  pub no_quote : list_all (is_other a.quote) a.value ≡ true
  pub no_tag : list_all (is_other 60) a.value ≡ true
  pub references : has_references a.value ≡ true

-- attributes as written, and the bytes after them
abbrev pub attributes_then : List Attribute → List ℕ → List ℕ
attributes_then [] rest = rest
attributes_then (a ∷ more) rest = attribute_then a (attributes_then more rest)

-- productions 40 and 44: attributes with distinct names as written, and optional white space
pub record IsTail (tail : List ℕ) : Type 0 where
  pub attributes : List Attribute
  pub space : List ℕ
  pub each : AllByRecursion IsAttribute attributes
  pub is_space : IsSpace space
  pub distinct : are_distinct (map (λ a. a.name) attributes) ≡ true
  pub whole : tail ≡ attributes_then attributes space

-- the name and the value
abbrev pub named_value : Attribute → Name × List ℕ
named_value a = (a.name, a.value)

-- what a start tag is: its name, and its tail
pub record NameAndTail : Type 0 where
  pub name : Name
  pub tail : List ℕ
