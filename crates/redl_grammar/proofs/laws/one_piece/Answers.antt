use Rattle.redl_grammar.proofs.Pieces.{one_piece}
use Rattle.redl_grammar.proofs.laws.one_piece.Goals as goal

pub returns : goal.returns
returns c = one_piece
