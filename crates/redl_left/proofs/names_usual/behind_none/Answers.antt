use Rattle.std.proofs.Common.{inr}
use Rattle.redl_left.specs.Search.{table_of}
use Rattle.redl_left.proofs.UsualLaws.{names_behind}
use Rattle.redl_left.proofs.names_usual.behind_none.Goals as goal

pub returns : goal.returns
returns c = λ name. λ is. λ part.
    names_behind (table_of c.args.search.now) part _ _ _ name (c.in_ok-value.ensures name is) (inr (c.begins_none.ensures c.if-not-begins_none.false))
