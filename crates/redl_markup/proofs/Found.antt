-- What is found at the start of the bytes stands there, and where nothing is found nothing stands.
use Rattle.std.proofs.Common.{◌∙◌, sym, ℕ, List, Result, Ok, Err}
use Rattle.std.specs.Prelude.{IfOk, IsErrOf}
use Rattle.std.proofs.lemmas.Option.{none-some}
use Rattle.redl_markup.specs.declared.error.MarkupError.{MarkupError}
use Rattle.redl_markup.specs.declared.error.MarkupError.TheVariants.{Unreadable, NoMemory}
use Rattle.redl_markup.specs.Reading.{Finds}
use Rattle.redl_grammar.specs.declared.section.Section.{Section}
use Rattle.redl_grammar.specs.Pieces.{Piece, Stands, HasNoPiece}
use Rattle.redl_grammar.specs.ScanPieces.{piece_at}
use Rattle.redl_grammar.proofs.Pieces.{piece_takes, stands_is_read}

pub is_found : {X : Type 0} (view : X → Piece × List ℕ) (place : Section) (bs : List ℕ) (r : Result X MarkupError) → Finds view r (piece_at place bs) → IfOk r (λ x. Stands place bs (view x).0 (view x).1)
is_found view place bs (Ok x) e = piece_takes place bs (view x) e
is_found view place bs (Err f) e = tt

pub is_unreadable : {X : Type 0} (view : X → Piece × List ℕ) (place : Section) (bs : List ℕ) (r : Result X MarkupError) → Finds view r (piece_at place bs) → IsErrOf r Unreadable → HasNoPiece place bs
is_unreadable view place bs (Ok x) e h p rest stands = absurd cc
is_unreadable view place bs (Err NoMemory) e h p rest stands = absurd cc
is_unreadable view place bs (Err Unreadable) e h p rest stands = none-some (p, rest) (sym e ∙ stands_is_read place bs p rest stands)
