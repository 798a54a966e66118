-- The code's pieces as plain data.
use Rattle.redl_markup.specs.declared.piece.Piece as code
use Rattle.redl_markup.specs.declared.piece.Piece.TheVariants.{Start, Empty, End, Stretch}
use Rattle.redl_markup.specs.declared.bare.BarePiece as bare
use Rattle.redl_markup.specs.declared.bare.BarePiece.TheVariants as bare_piece
use Rattle.redl_grammar.specs.Pieces.{Piece, start_tag, empty_tag, end_tag, stretch}
use Rattle.redl_markup.specs.Views.{name_view}

-- a piece of the code as plain data
abbrev pub piece_view : code.Piece → Piece
piece_view (Start tag) = start_tag tag.name tag.tail
piece_view (Empty tag) = empty_tag tag.name tag.tail
piece_view (End name space) = end_tag (name_view name) space.now
piece_view (Stretch bytes) = stretch bytes.now

-- a piece without attributes as plain data
abbrev pub bare_view : bare.BarePiece → Piece
bare_view (bare_piece.Start tag) = start_tag tag.name tag.tail
bare_view (bare_piece.Empty tag) = empty_tag tag.name tag.tail
bare_view (bare_piece.End name space) = end_tag (name_view name) space.now
bare_view (bare_piece.Stretch bytes) = stretch bytes.now
