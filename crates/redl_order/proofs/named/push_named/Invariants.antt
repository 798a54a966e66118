use Rattle.std.proofs.Common.{◌++◌, drop}
use Rattle.redl_order.specs.Order.{ids, notes, with_ids}
use Rattle.redl_order.specs.Borrowed.{all_borrowed}
use Rattle.redl_order.proofs.IdLaws.{SoFar}
use Rattle.redl_order.proofs.named.push_named.Given as goal

abbrev pub invariant-loop-reference : goal.invariant-loop-reference
invariant-loop-reference l =
    SoFar l.found (all_borrowed l.named.items) (ids l.note (drop l.reference-index l.references))
    (all_borrowed l.initial.named.items ++ with_ids (ids l.note l.references) (notes l.note l.pkg))
