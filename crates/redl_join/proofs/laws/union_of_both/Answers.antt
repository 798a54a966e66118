use Rattle.std.proofs.Common.{sym}
use Rattle.redl_join.proofs.Unions.{union-append}
use Rattle.redl_join.proofs.laws.union_of_both.Goals as goal

pub returns : goal.returns
returns c = λ book entries others. sym (union-append book entries others)
