-- One map has a key more.
use Rattle.std.proofs.Common.{◌∙◌, ap, sym, false}
use Rattle.std.proofs.lemmas.List.{get_or-map}
use Rattle.std.proofs.lemmas.Result.{on_ok_weaker}
use Rattle.redl_left.specs.Named.{has_in}
use Rattle.redl_left.proofs.NameLaws.{added_at}
use Rattle.redl_left.proofs.named.Values.add.Goals as goal

pub returns-in-Some-clause-added : goal.returns-in-Some-clause-added
returns-in-Some-clause-added c =
    let maps = c.args.self.now.by_front.items in
    let old = c.in-Some.values.now in
    let within = c.in-Some.ensures.item.3.0 in
    on_ok_weaker c.put.result (λ keys. λ other.
    added_at (has_in other) maps c.front_byte.result old c.put.new.values c.args.value.now other (sym c.front_byte.ensures) within
    (get_or-map (has_in other) maps c.front_byte.result old false within ∙ ap (has_in other) (sym c.in-Some.ensures.value)) (keys other)) c.put.ensures
