use Rattle.std.proofs.Common.{refl}
use Rattle.redl_io.proofs.Puts.{puts_then, puts_fails}
use Rattle.redl_page_stories.proofs.starts.put_symbol.Goals as goal

pub returns-in_err-put_given_symbol : goal.returns-in_err-put_given_symbol
returns-in_err-put_given_symbol g c = puts_fails _ refl c.from_residual.ensures.1 c.in_err-put_given_symbol.ensures

pub returns : goal.returns
returns g c = puts_then refl c.in_ok-put_given_symbol.ensures c.put_piece.ensures
