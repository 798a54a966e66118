-- What a step over the bytes of a node shows.
use Rattle.std.specs.Prelude.{ℕ, List, [], encode_utf8}
use Rattle.redl_shown.specs.declared.pieces.ShownPiece.{ShownPiece}
use Rattle.redl_shown.specs.declared.pieces.ShownPiece.TheVariants.{Nothing, Bytes, Character}

-- nothing, bytes as they are, or the UTF-8 of a character
abbrev pub piece_text : ShownPiece → List ℕ
piece_text Nothing = []
piece_text (Bytes b) = b.now
piece_text (Character c) = encode_utf8 c
