use Rattle.redl_left.proofs.UsualLaws.{usual}
use Rattle.redl_left.proofs.usual.behind_front.Goals as goal

pub returns : goal.returns
returns c = λ name. λ is.
    usual name _ _ _ _ _ _ is c.in_ok-bytes.ensures c.until_end.ensures.front c.until_end.ensures.rest c.in_ok-rest.ensures
