-- Reference after reference.
use Rattle.std.proofs.Common.{◌+◌, ◌++◌, ap, sym, ◌∙◌, arith, subst, refl, drop, List, ℕ, get_or, append-nil}
use Rattle.std.proofs.lemmas.List.{at_drop_more, at_drop_all}
use Rattle.redl_order.specs.Order.{ids, notes, with_ids, is_same}
use Rattle.redl_order.specs.Borrowed.{all_borrowed}
use Rattle.redl_order.proofs.IdLaws.{SoFar, goes_on}
use Rattle.redl_order.proofs.named.push_named.Goals as goal

pub loop-reference-init : goal.loop-reference-init
loop-reference-init c = record { notes = notes c.args.note c.args.pkg.now; has = c.in_ok-found.ensures; all_of = refl }

pub loop-reference-preserved : goal.loop-reference-preserved
loop-reference-preserved c =
    let references = c.args.references.now in
    let i = c.loop-reference.reference-index in
    let r = c.reference-item.result in
    let more = ids c.args.note (drop (i + 1) references) in
    let here = at_drop_more (ids c.args.note) references i r (omega arith) in
    let Left : List (List ℕ) → Type 0 = λ rest. SoFar c.loop-reference.found (all_borrowed c.loop-reference.named.items) rest
    (all_borrowed c.args.named.now.items ++ with_ids (ids c.args.note references) (notes c.args.note c.args.pkg.now)) in
    goes_on (is_same c.args.note r.named) r.id more c.loop-reference.found c.push_one.new.found (all_borrowed c.loop-reference.named.items) (all_borrowed c.push_one.new.named.items) _
    (subst Left (rw (← c.reference-item.is) at here) c.loop-reference.invariant) c.in_ok-push_one.ensures

pub returns : goal.returns
returns c =
    let now = all_borrowed c.loop-reference.named.items in
    let left = c.loop-reference.invariant.notes in
    let end = at_drop_all (ids c.args.note) c.args.references.now c.loop-reference.reference-index (omega arith) in
    sym (ap (λ (rest : List (List ℕ)). now ++ with_ids rest left) end ∙ append-nil now)
    ∙ c.loop-reference.invariant.all_of
