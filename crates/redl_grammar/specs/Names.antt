-- Names: of instructions with colons (XML 1.0, production 5), of elements and attributes without and with a prefix (Namespaces in XML 1.0, productions 4 and 7).
use Rattle.std.specs.Prelude.{◌≡◌, ℕ, Bool, true, false, ◌==◌, ◌&&◌, ◌||◌, List, [], ◌∷◌, ◌++◌, not, ◌⊎◌}
use lib.Pointwise.{pointwise}
use Rattle.std.specs.Prelude.{eqb}
use Rattle.std.specs.List.{list_all}
use Rattle.std.specs.Str.{encode_utf8_all, all_scalars}
use Rattle.redl_grammar.specs.Characters.{is_name_start, is_name_character}

-- a first and a further character of a name, with or without colons
unfoldable pub may_start : Bool → ℕ → Bool
may_start colons c = is_name_start c && (colons || not (c == 58))

unfoldable pub may_follow : Bool → ℕ → Bool
may_follow colons c = is_name_character c && (colons || not (c == 58))

-- the bytes are a name of one part: Name if colons are allowed in it, otherwise NCName
pub record IsWord (colons : Bool) (word : List ℕ) : Type 0 where
  pub first : ℕ
  pub more : List ℕ
  pub start : may_start colons first ≡ true
  pub each : list_all (may_follow colons) more ≡ true
  pub scalars : all_scalars (first ∷ more) ≡ true
  pub whole : word ≡ encode_utf8_all (first ∷ more)

-- A name as it is written. With no prefix, `prefix` is empty.
pub record Name : Type 0 where
  pub prefix : List ℕ
  pub local : List ℕ

-- the name as a tag has it
abbrev pub name_text : Name → List ℕ
name_text name = prefixed name.prefix name.local where
  prefixed : List ℕ → List ℕ → List ℕ
  prefixed [] local = local
  prefixed (p ∷ ps) local = (p ∷ ps) ++ 58 ∷ local

-- QName
pub record IsName (name : Name) : Type 0 where
  pub prefix : (name.prefix ≡ []) ⊎ IsWord false name.prefix
  pub local : IsWord false name.local

-- two names are written alike
abbrev pub name_eq : Name → Name → Bool
name_eq m n = pointwise eqb m.prefix n.prefix && pointwise eqb m.local n.local

unfoldable pub are_distinct : List Name → Bool
are_distinct [] = true
are_distinct (n ∷ ns) = list_all (λ m. not (name_eq n m)) ns && are_distinct ns
