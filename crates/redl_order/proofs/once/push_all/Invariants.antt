use Rattle.std.proofs.Common.{drop}
use Rattle.std.specs.BTreeSet.{contains}
use Rattle.std.specs.Ordering.{nat_cmp}
use Rattle.redl_opc.specs.Shape.{parts_of}
use Rattle.redl_order.specs.Order.{numbers_from, story_of_kind}
use Rattle.redl_order.specs.Borrowed.{all_borrowed}
use Rattle.redl_order.proofs.OnceLaws.{Left}
use Rattle.redl_order.proofs.once.push_all.Given as goal

abbrev pub invariant-loop-part : goal.invariant-loop-part
invariant-loop-part l =
    Left (story_of_kind l.kind l.pkg) (contains nat_cmp l.initial.seen) (all_borrowed l.initial.roots.items) (numbers_from 0 (parts_of l.pkg))
    (contains nat_cmp l.seen) (all_borrowed l.roots.items) (numbers_from l.part (drop l.part (parts_of l.pkg)))
