use Rattle.redl_markup.specs.PieceViews.{piece_view}
use Rattle.redl_markup.proofs.Found.{is_found, is_unreadable}
use Rattle.redl_markup.proofs.read.next_piece.Goals as goal

pub returns-clause-found : goal.returns-clause-found
returns-clause-found c = is_found (λ x. (piece_view x.0, x.1.now)) c.args.place c.args.bytes.now c.read_piece.result c.read_piece.ensures

pub returns-clause-unreadable : goal.returns-clause-unreadable
returns-clause-unreadable c = is_unreadable (λ x. (piece_view x.0, x.1.now)) c.args.place c.args.bytes.now c.read_piece.result c.read_piece.ensures
