use Rattle.redl_join.proofs.Unions.{one_book}
use Rattle.redl_join.proofs.laws.same_book.Goals as goal

pub returns : goal.returns
returns c = one_book
