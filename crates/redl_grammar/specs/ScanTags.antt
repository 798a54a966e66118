-- Reading attributes and tags from the left.
use Rattle.std.specs.Prelude.{ℕ, suc, Bool, false, ◌==◌, ◌&&◌, ◌||◌, List, [], ◌∷◌, ◌++◌, length, Option, Some, None, option_map, if◌then◌else◌, codes}
use Rattle.std.specs.List.{list_all}
use Rattle.redl_grammar.specs.Characters.{is_space}
use Rattle.redl_reading.specs.Lists.{behind, front, after, before, is_filled, is_other, field_at}
use Rattle.redl_reading.specs.Steps.{◌>>=◌, Turn, done, next, turns}
use Rattle.redl_grammar.specs.Names.{Name, are_distinct}
use Rattle.redl_grammar.specs.References.{has_references}
use Rattle.redl_grammar.specs.Pieces.{Piece, start_tag, empty_tag, end_tag}
use Rattle.redl_grammar.specs.ScanNames.{name_at}

unfoldable pub quote_at : List ℕ → Option (ℕ × List ℕ)
quote_at [] = None
quote_at (b ∷ bs) = if b == 34 || b == 39 then Some (b, bs) else None

-- a text between quotes of one kind
unfoldable pub quoted_at : List ℕ → Option (List ℕ × List ℕ)
quoted_at bs = do
  quote ← quote_at bs
  field_at quote.0 quote.1

-- optional white space, `=`, optional white space, and a text between quotes
unfoldable pub equated_at : List ℕ → Option (List ℕ × List ℕ)
equated_at bs = do
  more ← behind (codes "=") (after is_space bs)
  quoted_at (after is_space more)

-- a `=` in white space, and the quote behind it
unfoldable pub opening_at : List ℕ → Option (ℕ × List ℕ)
opening_at bs = do
  more ← behind (codes "=") (after is_space bs)
  quote_at (after is_space more)

-- neither `<` nor `&`
abbrev pub is_plain : ℕ → Bool
is_plain b = is_other 60 b && is_other 38 b

unfoldable pub is_value : List ℕ → Bool
is_value bs = list_all (is_other 60) bs && has_references bs

-- a byte that ends no value, and is neither `<` nor `&`
unfoldable pub is_value_byte : ℕ → Bool
is_value_byte b = is_plain b && is_other 34 b && is_other 39 b

-- a legal value with its `=`, and what follows it
unfoldable pub value_at : List ℕ → Option (List ℕ × List ℕ)
value_at bs = do
  value ← equated_at bs
  if is_value value.0 then Some value else None

-- an attribute's name and value, and what follows the attribute
unfoldable pub attribute_at : List ℕ → Option ((Name × List ℕ) × List ℕ)
attribute_at bs = do
  name ← name_at bs
  value ← equated_at name.1
  if is_value value.0 then Some ((name.0, value.0), value.1) else None

-- the attribute behind white space, which may not be empty
abbrev pub attribute_behind : List ℕ → List ℕ → Option ((Name × List ℕ) × List ℕ)
attribute_behind gap bs = if is_filled gap then attribute_at bs else None

-- the first attribute of a tail, and the rest of the tail
unfoldable pub attribute_in : List ℕ → Option ((Name × List ℕ) × List ℕ)
attribute_in tail = attribute_behind (front is_space tail) (after is_space tail)

unfoldable pub ends_tag : List ℕ → Bool
ends_tag [] = false
ends_tag (b ∷ bs) = b == 62 || b == 47

-- the names of the attributes so far, and what is left
abbrev pub Tail : Type 0
Tail = List Name × List ℕ

abbrev pub after_attribute : List Name → Option ((Name × List ℕ) × List ℕ) → Turn Tail Tail
after_attribute names None = done None
after_attribute names (Some a) = next (names ++ a.0.0 ∷ [], a.1)

unfoldable pub tail_step : Tail → Turn Tail Tail
tail_step s =
    if ends_tag (after is_space s.1) then done (Some (s.0, after is_space s.1)) else after_attribute s.0 (attribute_in s.1)

unfoldable pub attributes_at : List ℕ → Option Tail
attributes_at bs = turns tail_step (suc (length bs)) ([], bs)

-- what follows them and their white space
abbrev pub attributes_end : List ℕ → Option (List ℕ)
attributes_end bs = option_map (λ end. end.1) (attributes_at bs)

unfoldable pub tail_at : List ℕ → Option (List ℕ × List ℕ)
tail_at bs = do
  end ← attributes_at bs
  if are_distinct end.0 then Some (before bs end.1, end.1) else None

abbrev pub start_at : Name → List ℕ → Option (List ℕ) → List ℕ → Option (Piece × List ℕ)
start_at name tail (Some rest) end = Some (start_tag name tail, rest)
start_at name tail None end = do
  rest ← behind (codes "/>") end
  Some (empty_tag name tail, rest)

-- after the `<`
unfoldable pub tag_at : List ℕ → Option (Piece × List ℕ)
tag_at bs = do
  name ← name_at bs
  tail ← tail_at name.1
  start_at name.0 tail.0 (behind (codes ">") tail.1) tail.1

-- after the `</`
unfoldable pub end_tag_at : List ℕ → Option (Piece × List ℕ)
end_tag_at bs = do
  name ← name_at bs
  rest ← behind (codes ">") (after is_space name.1)
  Some (end_tag name.0 (front is_space name.1), rest)
