use Rattle.std.specs.List.{flat_map}
use Rattle.std.specs.Vec.Iter.{into_iter_items}
use Rattle.redl_order.specs.Borrowed.{all_borrowed}
use Rattle.redl_bare.specs.Units.{story_units}
use Rattle.redl_bare.proofs.LineLaws.{UnitsSoFar}
use Rattle.redl_bare.proofs.package.put_stories.Given as goal

abbrev pub invariant-loop-root : goal.invariant-loop-root
invariant-loop-root g l =
    UnitsSoFar g.K.Sink.told g.K.Sink.faults g.K.Sink.settled g.K.Sink.lenders l.initial.writer l.writer (flat_map story_units (all_borrowed l.fn.stories.items))
    (flat_map story_units (all_borrowed (into_iter_items l.root-iterator)))
