-- The page as a list of pieces (our own rule). A piece is a text of the program's own, a number, or a text from outside: of the
-- document, of an author, of a part's name, or of a reviewer. Only the last kind holds bytes, and it is written escaped.
use Prim.Native.String.{String}
use Rattle.std.specs.Prelude.{ℕ, ◌==◌, Bool, false, ◌&&◌, ◌||◌, List, [], ◌∷◌, bytes_eq, codes, decimal}
use Rattle.std.specs.List.{flat_map}
use Rattle.redl_html.specs.Escaping.{escaped}

pub data HtmlPiece : Type 0 where
  own : String → HtmlPiece
  number : ℕ → HtmlPiece
  outside : List ℕ → HtmlPiece

-- what is written of a piece
abbrev pub piece_text : HtmlPiece → List ℕ
piece_text (own text) = codes text
piece_text (number n) = decimal n
piece_text (outside text) = escaped text

-- what is written of pieces, one after the other
abbrev pub pieces_text : List HtmlPiece → List ℕ
pieces_text pieces = flat_map piece_text pieces

-- ---- numbers after a text

-- a text ends in a word
abbrev pub ends_in : List ℕ → List ℕ → Bool
ends_in word [] = bytes_eq word []
ends_in word (b ∷ bs) = bytes_eq word (b ∷ bs) || ends_in word bs

abbrev pub is_number : ℕ → HtmlPiece → Bool
is_number rev (own text) = false
is_number rev (number n) = n == rev
is_number rev (outside text) = false

abbrev pub starts_with_number : ℕ → List HtmlPiece → Bool
starts_with_number rev [] = false
starts_with_number rev (piece ∷ pieces) = is_number rev piece

-- one of these texts comes, and then the number of this revision
abbrev pub has_number : (HtmlPiece → Bool) → ℕ → List HtmlPiece → Bool
has_number opens rev [] = false
has_number opens rev (piece ∷ pieces) = (opens piece && starts_with_number rev pieces) || has_number opens rev pieces
