use Rattle.std.proofs.Common.{drop, filter_map}
use Rattle.std.specs.BTreeSet.{contains}
use Rattle.std.specs.Ordering.{nat_cmp}
use Rattle.redl_relations.specs.Leads.{lead}
use Rattle.redl_order.specs.Order.{ids, story_of_kind}
use Rattle.redl_order.specs.Borrowed.{all_borrowed}
use Rattle.redl_order.proofs.OnceLaws.{Left}
use Rattle.redl_order.proofs.once.push_led_to.Given as goal

abbrev pub invariant-loop-reference : goal.invariant-loop-reference
invariant-loop-reference l =
    Left (story_of_kind l.kind l.pkg) (contains nat_cmp l.initial.seen) (all_borrowed l.initial.roots.items) (filter_map (lead l.leads) (ids l.kind l.references))
    (contains nat_cmp l.seen) (all_borrowed l.roots.items) (filter_map (lead l.leads) (ids l.kind (drop l.reference-index l.references)))
