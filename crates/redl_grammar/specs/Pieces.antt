-- The pieces of a text: a start tag, an empty tag, an end tag, and a stretch without a tag (XML 1.0, productions 39 to 44).
use Rattle.std.specs.Prelude.{◌≡◌, ℕ, true, List, ◌∷◌, ◌++◌}
use Rattle.redl_grammar.specs.declared.section.Section.{Section}
use Rattle.redl_grammar.specs.Names.{Name, name_text, IsName}
use Rattle.redl_grammar.specs.Tails.{IsSpace, IsTail}
use Rattle.redl_grammar.specs.Stretches.{IsStretch, ends_stretch}

-- STag, EmptyElemTag and ETag, productions 40, 44 and 42, and a stretch. A tag has a name, and a tail or the white space after the name.
pub data Piece : Type 0 where
  start_tag : Name → List ℕ → Piece
  empty_tag : Name → List ℕ → Piece
  end_tag : Name → List ℕ → Piece
  stretch : List ℕ → Piece

-- the text of a piece, followed by the rest
abbrev pub piece_then : Piece → List ℕ → List ℕ
piece_then (start_tag name tail) rest = 60 ∷ (name_text name ++ (tail ++ (62 ∷ rest)))
piece_then (empty_tag name tail) rest = 60 ∷ (name_text name ++ (tail ++ (47 ∷ 62 ∷ rest)))
piece_then (end_tag name space) rest = 60 ∷ 47 ∷ (name_text name ++ (space ++ (62 ∷ rest)))
piece_then (stretch bs) rest = bs ++ rest

-- the place matters only for stretches
abbrev pub IsPiece : Section → Piece → Type 0
IsPiece place (start_tag name tail) = IsName name × IsTail tail
IsPiece place (empty_tag name tail) = IsName name × IsTail tail
IsPiece place (end_tag name space) = IsName name × IsSpace space
IsPiece place (stretch bs) = IsStretch place bs

-- what may follow a piece: after a tag, anything
abbrev pub Follows : Piece → List ℕ → Type 0
Follows (stretch bs) rest = ends_stretch rest ≡ true
Follows (start_tag name tail) rest = Unit {0}
Follows (empty_tag name tail) rest = Unit {0}
Follows (end_tag name space) rest = Unit {0}

-- the bytes begin with the piece, and the rest follows it
pub record Stands (place : Section) (bytes : List ℕ) (piece : Piece) (rest : List ℕ) : Type 0 where
  pub whole : bytes ≡ piece_then piece rest
  pub legal : IsPiece place piece
  pub follows : Follows piece rest

-- the bytes begin with no piece
abbrev pub HasNoPiece : Section → List ℕ → Type 0
HasNoPiece place bytes = (piece : Piece) (rest : List ℕ) → Stands place bytes piece rest → ⊥
