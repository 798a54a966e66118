use Rattle.std.proofs.Common.{rules, of_calls, sym, nat_lt, get_or}
use Rattle.std.proofs.lemmas.Fn.{always_returns_same}
use Rattle.redl_moves.proofs.BeforeLaws.{rises-along, below-too, point-before}
use Rattle.redl_moves.proofs.before.markers_before.Goals as goal

pub returns : goal.returns
returns c =
    let marks = c.args.marks.now in
    let at = c.args.at in
    let point = c.partition_point.ensures.partitioned (λ m. nat_lt m.at at) (always_returns_same _ _ _ (λ a r f k. search (rules, of_calls)))
    (λ i j d l m up. below-too (get_or marks i d).at (get_or marks j d).at at (rises-along 0 marks i j d c.requires.rising l m) up) in
    sym (point-before at marks c.partition_point.result c.partition_point.ensures.bound point.0 point.1)
