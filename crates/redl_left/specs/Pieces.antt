-- The pieces of a kept text, one after the other, and what each of them is found to be.
use Rattle.std.specs.Prelude.{◌≡◌, ℕ, List, [], ◌∷◌, ◌++◌, Option}
use Rattle.redl_grammar.specs.declared.section.Section.TheVariants.{InElement}
use Rattle.redl_grammar.specs.Pieces.{Piece, start_tag, empty_tag, end_tag, stretch, piece_then, IsPiece, Follows, Stands}
use Rattle.redl_left.specs.Finds.{Find, Table, found_idle, found_member, found_text}
use Rattle.redl_left.specs.Lines.{noted_all}
use Rattle.redl_left.specs.declared.fact.Fact.{Fact}
use Rattle.redl_left.specs.declared.line.Line.{Line}

abbrev pub pieces_text : List Piece → List ℕ
pieces_text [] = []
pieces_text (piece ∷ more) = piece_then piece (pieces_text more)

abbrev pub ArePieces : List Piece → Type 0
ArePieces [] = Unit {0}
ArePieces (piece ∷ more) = IsPiece InElement piece × Follows piece (pieces_text more) × ArePieces more

-- a text is these pieces
pub record HasPieces (t : List ℕ) : Type 0 where
  pub pieces : List Piece
  pub whole : t ≡ pieces_text pieces
  pub legal : ArePieces pieces

-- an element is found by its start tag
abbrev pub piece_finds : Table → List ℕ → Piece → List Find
piece_finds table part (start_tag name tail) = found_idle table part name.local tail
piece_finds table part (empty_tag name tail) = found_idle table part name.local tail
piece_finds table part (end_tag name white) = []
piece_finds table part (stretch b) = found_text table part b

abbrev pub pieces_finds : Table → List ℕ → List Piece → List Find
pieces_finds table part [] = []
pieces_finds table part (piece ∷ more) = piece_finds table part piece ++ pieces_finds table part more

-- the text is that of a tag
pub record IsTagText (t : List ℕ) (tag : Piece) : Type 0 where
  pub whole : t ≡ piece_then tag []
  pub legal : IsPiece InElement tag
  pub follows : (rest : List ℕ) → Follows tag rest

-- the text is that of a tag that begins an element with this local name and tail
pub record BeginsElement (t local tail : List ℕ) : Type 0 where
  pub tag : Piece
  pub text : IsTagText t tag
  pub finds : (table : Table) (part : List ℕ) → piece_finds table part tag ≡ found_idle table part local tail

-- in each part the tag with this text is a find of this fact, of which nothing more is told, or no find
pub record IsKnown (table : Table) (t : List ℕ) (fact : Option Fact) : Type 0 where
  pub tag : Piece
  pub text : IsTagText t tag
  pub finds : (part : List ℕ) → piece_finds table part tag ≡ found_member part fact

-- a text begins with such a tag, and goes on with this rest
pub record BeginsKnown (table : Table) (t : List ℕ) (fact : Option Fact) (rest : List ℕ) : Type 0 where
  pub tag : Piece
  pub stands : Stands InElement t tag rest
  pub finds : (part : List ℕ) → piece_finds table part tag ≡ found_member part fact

-- the first of these pieces was noted, and the text of the others is left
pub record Took (table : Table) (part : List ℕ) (old new : List (List Line)) (pieces : List Piece) (rest : List ℕ) : Type 0 where
  pub first : Piece
  pub more : List Piece
  pub is : pieces ≡ first ∷ more
  pub left : rest ≡ pieces_text more
  pub noted : new ≡ noted_all old (piece_finds table part first)

-- some of these pieces were noted, and the text of the others is left
pub record Ahead (table : Table) (part : List ℕ) (old new : List (List Line)) (pieces : List Piece) (left : List ℕ) : Type 0 where
  pub begins : HasPieces left
  pub noted : noted_all new (pieces_finds table part begins.pieces) ≡ noted_all old (pieces_finds table part pieces)
