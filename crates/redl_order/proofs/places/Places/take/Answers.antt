use Rattle.std.proofs.Common.{[], ◌∙◌, ap, None}
use Rattle.std.specs.Option.{option_map_or}
use Rattle.std.proofs.lemmas.Map.Text.{btree_map_updates_str}
use Rattle.redl_order.specs.Inside.Places.{held}
use Rattle.redl_order.proofs.IdLaws.{after_change}
use Rattle.redl_order.proofs.places.Places.take.Goals as goal

pub returns-in-Some-clause-taken : goal.returns-in-Some-clause-taken
returns-in-Some-clause-taken c = ap (λ found. option_map_or held found []) c.in-Some.ensures.value

pub returns-in-Some-clause-left : goal.returns-in-Some-clause-left
returns-in-Some-clause-left c = λ other.
    ap (λ found. option_map_or held found []) (btree_map_updates_str c.args.id.now c.args.self.now.notes c.remove.new.self None c.remove.ensures.updates other)
    ∙ after_change held _ None _
