use Rattle.std.proofs.Common.{◌∙◌, List, Bool, ap, false, get_or, vec_len}
use Rattle.redl_left.specs.Named.{front_byte}
use Rattle.redl_left.proofs.NameLaws.{none_at}
use Rattle.redl_left.proofs.named.Values.none.Goals as goal

pub returns-clause-none : goal.returns-clause-none
returns-clause-none c = λ other.
    ap (λ (bs : List Bool). get_or bs (front_byte other) false) (c.loop-alloc.invariant.none other) ∙ none_at (vec_len c.loop-alloc.by_front) (front_byte other)
